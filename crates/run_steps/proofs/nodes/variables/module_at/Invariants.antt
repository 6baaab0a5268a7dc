use Rattle.std.proofs.Common.{◌≡◌, length}
use Rattle.theory_meaning.specs.Act.{resolved}
use Rattle.run_state.specs.Entries.{scope_meant}
use Rattle.run_steps.proofs.nodes.variables.module_at.Given as goal

-- what is left decides
abbrev pub invariant-loop-last : goal.invariant-loop-last
invariant-loop-last l = resolved (scope_meant l.rest) l.name ≡ resolved (scope_meant l.scope) l.name

abbrev pub decreases-loop-last : goal.decreases-loop-last
decreases-loop-last l = length l.rest
