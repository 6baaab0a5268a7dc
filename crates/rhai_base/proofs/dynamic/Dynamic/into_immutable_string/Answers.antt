use Rattle.std.proofs.Common.{rules}
use Rattle.rhai_base.proofs.dynamic.Dynamic.into_immutable_string.Goals as goal

pub returns-in-Str : goal.returns-in-Str
returns-in-Str c = search rules
