use Rattle.std.proofs.Common.{◌≡◌, ◌≤◌, ◌<◌, ◌-◌, ◌^◌}
use Rattle.base_floats.specs.Digits as model
use Rattle.base_floats.proofs.digits.until_read.Given as goal

abbrev pub invariant-loop-left : goal.invariant-loop-left
invariant-loop-left l =
    (model.until_read l.bits l.decimal.power l.decimal.digits l.left ≡ model.until_read l.bits l.power l.digits 16)
    × (l.left ≤ 16) × (l.decimal.digits < 10 ^ (17 - l.left))

abbrev pub decreases-loop-left : goal.decreases-loop-left
decreases-loop-left l = l.left
