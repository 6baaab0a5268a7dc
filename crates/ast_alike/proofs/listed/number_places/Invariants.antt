use Rattle.std.proofs.Common.{◌≡◌}
use Rattle.ast_nodes.proofs.Changes.{first_changed}
use Rattle.ast_alike.specs.Gaps.{number_by}
use Rattle.ast_alike.proofs.listed.number_places.Given as goal

abbrev pub invariant-loop-place : goal.invariant-loop-place
invariant-loop-place l = l.places ≡ first_changed (number_by l.gaps) l.initial.places l.place-index
