use Rattle.std.proofs.Common.{◌≡◌, length, map}
use Rattle.theory_meaning.specs.Engine.{constant_named}
use Rattle.run_state.specs.Entries.{binding_meant}
use Rattle.run_steps.proofs.nodes.variables.latest_constant.Given as goal

-- what is left decides
abbrev pub invariant-loop-last : goal.invariant-loop-last
invariant-loop-last l = constant_named (map binding_meant l.rest) l.name ≡ constant_named (map binding_meant l.constants) l.name

abbrev pub decreases-loop-last : goal.decreases-loop-last
decreases-loop-last l = length l.rest
