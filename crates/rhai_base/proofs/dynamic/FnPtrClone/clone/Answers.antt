use Rattle.std.proofs.Common.{rules}
use Rattle.rhai_base.proofs.dynamic.FnPtrClone.clone.Goals as goal

pub returns : goal.returns
returns c = search rules
