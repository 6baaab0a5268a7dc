use Rattle.std.proofs.Common.{◌∙◌, subst, ◌<◌, ◌≤◌}
use Rattle.base_floats.proofs.Steps.{power_more, power_stays, power_least}
use Rattle.base_floats.proofs.digits.power_below.Goals as goal

pub loop-power-preserved : goal.loop-power-preserved
loop-power-preserved c =
    power_more c.args.bits c.loop-power.power c.loop-power-test.true (subst (λ r. c.args.bits < r) c.read_at.ensures c.if-read_at-bits.true) ∙ c.loop-power.invariant

pub returns-else-read_at-bits : goal.returns-else-read_at-bits
returns-else-read_at-bits c =
    power_stays c.args.bits c.loop-power.power (subst (λ r. r ≤ c.args.bits) c.read_at.ensures c.if-read_at-bits.false) ∙ c.loop-power.invariant

pub returns-after-loop-power : goal.returns-after-loop-power
returns-after-loop-power c = power_least c.args.bits c.loop-power.power c.loop-power-test.false ∙ c.loop-power.invariant
