use Rattle.std.proofs.Common.{◌≡◌, ◌≤◌}
use Rattle.base_floats.specs.Digits as model
use Rattle.base_floats.proofs.digits.least.Given as goal

abbrev pub invariant-loop-left : goal.invariant-loop-left
invariant-loop-left l =
    (model.least l.bits l.most.power l.digits l.left ≡ model.least l.bits l.most.power l.most.digits 9) × (l.digits ≤ l.most.digits)

abbrev pub decreases-loop-left : goal.decreases-loop-left
decreases-loop-left l = l.left
