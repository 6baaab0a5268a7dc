use Rattle.std.proofs.Common.{◌≡◌, ◌≤◌}
use Rattle.base_floats.specs.Digits as model
use Rattle.base_floats.proofs.digits.next.Given as goal

abbrev pub invariant-loop-digit : goal.invariant-loop-digit
invariant-loop-digit l = (model.next l.bits l.power l.digits l.digit ≡ model.next l.bits l.power l.digits 9) × (l.digit ≤ 9)

abbrev pub decreases-loop-digit : goal.decreases-loop-digit
decreases-loop-digit l = l.digit
