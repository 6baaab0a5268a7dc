use Rattle.std.proofs.Common.{rules}
use Rattle.rhai_base.proofs.fn_ptr.FnPtr.is_curried.Goals as goal

pub returns : goal.returns
returns c = search rules
