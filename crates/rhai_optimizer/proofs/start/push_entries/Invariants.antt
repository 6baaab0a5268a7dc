use Rattle.std.proofs.Common.{◌≡◌}
use Rattle.opt_base.specs.State.{progress}
use Rattle.rhai_optimizer.specs.Scopes.{known_onto}
use Rattle.rhai_optimizer.proofs.start.push_entries.Given as goal

-- with what is left on top it is what comes of all
abbrev pub invariant-loop-name : goal.invariant-loop-name
invariant-loop-name l = (l.state.is_dirty ≡ l.initial.state.is_dirty) × (known_onto l.name-iterator.entries.now (progress l.state).known ≡ known_onto l.scope (progress l.initial.state).known)
