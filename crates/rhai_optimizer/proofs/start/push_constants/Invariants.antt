use Rattle.std.proofs.Common.{◌≡◌}
use Rattle.base_engine.specs.EngineInfo.{constants_of, engine_of}
use Rattle.opt_base.specs.State.{progress}
use Rattle.rhai_optimizer.specs.Scopes.{constants_onto}
use Rattle.rhai_optimizer.proofs.start.push_constants.Given as goal

-- with what is left on top it is what comes of all
abbrev pub invariant-loop-name : goal.invariant-loop-name
invariant-loop-name l = (l.state.is_dirty ≡ l.initial.state.is_dirty) × (constants_onto (constants_of l.name-iterator.constants.now) (progress l.state).known ≡ constants_onto (engine_of l.info).constants (progress l.initial.state).known)
