use Rattle.std.proofs.Common.{◌≡◌, length}
use Rattle.theory_meaning.specs.Shape.{are_distinct}
use Rattle.rhai_ast.specs.MapKeys.{names_of}
use Rattle.rhai_ast.proofs.faults.map_keys.differ.Given as goal

abbrev pub invariant-loop-first : goal.invariant-loop-first
invariant-loop-first l = are_distinct (names_of l.members) ≡ are_distinct (names_of l.rest)

abbrev pub decreases-loop-first : goal.decreases-loop-first
decreases-loop-first l = length l.rest
