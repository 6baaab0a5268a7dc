use Rattle.std.proofs.Common.{rules}
use Rattle.rhai_base.proofs.scope.Scope.len.Goals as goal

pub returns : goal.returns
returns c = search rules
