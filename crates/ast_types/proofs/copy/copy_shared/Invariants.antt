use Rattle.std.proofs.Common.{◌≡◌, take}
use Rattle.ast_types.proofs.copy.copy_shared.Given as goal

abbrev pub invariant-loop-pair : goal.invariant-loop-pair
invariant-loop-pair l = l.copies ≡ take l.pair-index l.pair-items
