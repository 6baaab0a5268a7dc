use Rattle.std.proofs.Common.{rules}
use Rattle.script_tables.proofs.fn_lib.with_all.Goals as goal

pub returns-clause-id : goal.returns-clause-id
returns-clause-id c = search rules
