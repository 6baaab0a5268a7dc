use Rattle.std.proofs.Common.{rules}
use Rattle.script_tables.proofs.fn_lib.FnLib.id.Goals as goal

pub returns-in-Some : goal.returns-in-Some
returns-in-Some c = search rules
