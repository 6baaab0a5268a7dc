use Rattle.std.proofs.Common.{rules}
use Rattle.rhai_base.proofs.dynamic.Dynamic.into_array.Goals as goal

pub returns-in-Array : goal.returns-in-Array
returns-in-Array c = search rules
