use Rattle.std.proofs.Common.{◌≡◌, drop}
use Rattle.theory_spelling.specs.Listed.{marked}
use Rattle.ast_alike.proofs.marks.mark_all.Given as goal

abbrev pub invariant-loop-place : goal.invariant-loop-place
invariant-loop-place l = marked l.initial.marks.items l.places ≡ marked l.marks.items (drop l.place-index l.places)
