use Rattle.std.proofs.Common.{rules}
use Rattle.script_tables.proofs.fn_table.FnKey.of.Goals as goal

pub returns : goal.returns
returns c = search rules
