use Rattle.std.proofs.Common.{◌≡◌, drop}
use Rattle.opt_switch.specs.Forgetting.{marked}
use Rattle.opt_switch.proofs.forget.mark_all.Given as goal

abbrev pub invariant-loop-place : goal.invariant-loop-place
invariant-loop-place l = marked l.initial.marks.items l.places ≡ marked l.marks.items (drop l.place-index l.places)
