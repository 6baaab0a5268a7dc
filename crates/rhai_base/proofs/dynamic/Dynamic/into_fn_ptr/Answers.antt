use Rattle.std.proofs.Common.{rules}
use Rattle.rhai_base.proofs.dynamic.Dynamic.into_fn_ptr.Goals as goal

pub returns-in-FnPtr : goal.returns-in-FnPtr
returns-in-FnPtr c = search rules
