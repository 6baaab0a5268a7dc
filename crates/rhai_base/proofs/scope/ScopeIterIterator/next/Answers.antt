use Rattle.std.proofs.Common.{rules}
use Rattle.rhai_base.proofs.scope.ScopeIterIterator.next.Goals as goal

pub returns-clause-steps : goal.returns-clause-steps
returns-clause-steps c = search rules
