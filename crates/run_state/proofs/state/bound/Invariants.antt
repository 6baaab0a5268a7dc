use Rattle.run_state.proofs.Entering.{BoundTo}
use Rattle.run_state.proofs.state.bound.Given as goal

abbrev pub invariant-loop-param : goal.invariant-loop-param
invariant-loop-param l = BoundTo l.params l.fn.args l.fn.around.items l.param-index l.rest l.scope.items
