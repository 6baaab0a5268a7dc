use Rattle.std.proofs.Common.{arith}
use Rattle.std.proofs.lemmas.Grind.{common_steps}
use Rattle.script_tables.proofs.fn_table.FnTable.len.Goals as goal

pub returns : goal.returns
returns c = grind (arith, common_steps)
