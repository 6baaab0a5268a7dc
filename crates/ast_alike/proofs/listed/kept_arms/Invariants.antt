use Rattle.std.proofs.Common.{◌≡◌, ◌+◌, ◌++◌, drop, length}
use Rattle.ast_alike.proofs.Kept.{kept}
use Rattle.ast_alike.proofs.listed.kept_arms.Given as goal

abbrev pub invariant-loop-is_listed : goal.invariant-loop-is_listed
invariant-loop-is_listed l =
    (l.kept ++ kept (drop l.is_listed-index l.marks) l.rest ≡ kept l.marks l.fn.arms) × (length l.rest + l.is_listed-index ≡ length l.marks)
