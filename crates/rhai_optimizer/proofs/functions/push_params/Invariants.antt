use Rattle.std.proofs.Common.{◌≡◌, drop}
use Rattle.opt_base.specs.State.{progress}
use Rattle.theory_rewriting.specs.Known.{shadow_all}
use Rattle.rhai_optimizer.proofs.functions.push_params.Given as goal

-- with what is left on top it is what comes of all
abbrev pub invariant-loop-param : goal.invariant-loop-param
invariant-loop-param l = (l.state.is_dirty ≡ l.initial.state.is_dirty) × (shadow_all (drop l.param-index l.params) (progress l.state).known ≡ shadow_all l.params (progress l.initial.state).known)
