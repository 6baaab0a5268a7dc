use Rattle.std.proofs.Common.{rules, ◌∙◌, subst, ◌<◌, ◌≤◌}
use Rattle.base_floats.proofs.Steps.{next_more, next_stays, next_least}
use Rattle.base_floats.proofs.digits.next.Goals as goal
use Rattle.base_floats.proofs.digits.next.Goals.{then-loop-digit-test+else-read_at-bits, else-loop-digit-test}

pub loop-digit-preserved : goal.loop-digit-preserved
loop-digit-preserved c = (
  next_more c.args.bits c.args.power c.args.digits c.loop-digit.digit c.loop-digit-test.true (subst (λ r. c.args.bits < r) c.read_at.ensures c.if-read_at-bits.true) ∙ c.loop-digit.invariant.0,
  search rules,
)

pub returns-clause-is : goal.returns-clause-is
returns-clause-is c = elim c.loop-digit-test.branch [
  | then-loop-digit-test+else-read_at-bits w ↦ next_stays c.args.bits c.args.power c.args.digits c.loop-digit.digit (subst (λ r. r ≤ c.args.bits) w.read_at.ensures w.if-read_at-bits.false) ∙ c.loop-digit.invariant.0
  | else-loop-digit-test w ↦ next_least c.args.bits c.args.power c.args.digits c.loop-digit.digit w.loop-digit-test.false ∙ c.loop-digit.invariant.0
]
