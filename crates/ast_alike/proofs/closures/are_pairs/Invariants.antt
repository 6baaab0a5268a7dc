use Rattle.std.proofs.Common.{◌≡◌, List, ◌++◌}
use Rattle.rhai_base.specs.Value.{Text}
use Rattle.ast_alike.proofs.Pairs.{ArePaired}
use Rattle.ast_alike.proofs.closures.are_pairs.Given as goal

-- those that are passed are pairs
abbrev pub invariant-loop-old : goal.invariant-loop-old
invariant-loop-old l = (done : List (Text × Text)) × (l.names ≡ done ++ l.old-iterator) × ArePaired l.back done
