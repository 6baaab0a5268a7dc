use Rattle.std.proofs.Common.{◌≡◌, take}
use Rattle.run_standard.proofs.arrays.copied.Given as goal

abbrev pub invariant-loop-item : goal.invariant-loop-item
invariant-loop-item l = l.copies ≡ take l.item-index l.item-items
