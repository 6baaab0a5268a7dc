use Rattle.std.proofs.Common.{◌≡◌}
use Rattle.base_floats.specs.Digits as model
use Rattle.base_floats.proofs.digits.power_below.Given as goal

abbrev pub invariant-loop-power : goal.invariant-loop-power
invariant-loop-power l = model.power_below l.bits l.power ≡ model.power_below l.bits 708

abbrev pub decreases-loop-power : goal.decreases-loop-power
decreases-loop-power l = l.power
