use Rattle.std.proofs.Common.{length}
use Rattle.run_state.proofs.Variables.{SearchedTo}
use Rattle.run_steps.proofs.nodes.variables.position.Given as goal

abbrev pub invariant-loop-last : goal.invariant-loop-last
invariant-loop-last l = SearchedTo l.name l.scope l.rest

abbrev pub decreases-loop-last : goal.decreases-loop-last
decreases-loop-last l = length l.rest
