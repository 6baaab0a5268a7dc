use Rattle.std.proofs.Common.{rules}
use Rattle.rhai_base.proofs.fn_ptr.FnPtr.fn_name.Goals as goal

pub returns-clause-name : goal.returns-clause-name
returns-clause-name c = search rules
