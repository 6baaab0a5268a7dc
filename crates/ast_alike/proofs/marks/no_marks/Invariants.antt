use Rattle.std.proofs.Common.{◌≡◌, ◌-◌, ◌≤◌, false, length, replicate}
use Rattle.ast_alike.proofs.marks.no_marks.Given as goal

abbrev pub invariant-loop-marks : goal.invariant-loop-marks
invariant-loop-marks l = (l.marks.items ≡ replicate (length l.marks.items) false) × (length l.marks.items ≤ l.len)

abbrev pub decreases-loop-marks : goal.decreases-loop-marks
decreases-loop-marks l = l.len - length l.marks.items
