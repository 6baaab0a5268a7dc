use Rattle.std.proofs.Common.{◌≡◌, ◌++◌, length, map}
use Rattle.theory_spelling.specs.Captures.{put}
use Rattle.ast_types.specs.Reading.{expr_of}
use Rattle.ast_alike.proofs.captures.put_each.Given as goal

abbrev pub invariant-loop-arg : goal.invariant-loop-arg
invariant-loop-arg l = map expr_of l.made ++ map (λ a. put l.name (expr_of l.value) (expr_of a)) l.rest ≡ map (λ a. put l.name (expr_of l.value) (expr_of a)) l.fn.args

abbrev pub decreases-loop-arg : goal.decreases-loop-arg
decreases-loop-arg l = length l.rest
