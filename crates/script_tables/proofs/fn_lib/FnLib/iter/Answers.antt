use Rattle.std.proofs.Common.{rules}
use Rattle.script_tables.proofs.fn_lib.FnLib.iter.Goals as goal

pub returns-clause-rest : goal.returns-clause-rest
returns-clause-rest c = search rules
