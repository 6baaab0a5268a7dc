use Rattle.std.proofs.Common.{rules, arith, ◌-◌, ◌∙◌, sym, ap}
use Rattle.base_floats.specs.Digits.{read_at, least}
use Rattle.base_floats.proofs.Steps.{least_more, least_stays, least_last}
use Rattle.base_floats.proofs.digits.least.Goals as goal

pub loop-left-preserved : goal.loop-left-preserved
loop-left-preserved c =
    let e = c.args.most.power in
    let lower = ap (read_at e) (sym c.saturating_sub.ensures) in (
      ap (λ d. least c.args.bits e d (c.loop-left.left - 1)) c.saturating_sub-digits.ensures
          ∙ least_more c.args.bits e c.loop-left.digits c.loop-left.left c.loop-left-test.true (lower ∙ sym c.read_at.ensures ∙ c.if-read_at-bits.true)
          ∙ c.loop-left.invariant.0,
      search (rules, arith),
    )

pub returns-else-read_at-bits-clause-is : goal.returns-else-read_at-bits-clause-is
returns-else-read_at-bits-clause-is c =
    let lower = ap (read_at c.args.most.power) c.saturating_sub.ensures in
    least_stays c.args.bits c.args.most.power c.loop-left.digits c.loop-left.left (λ k. c.if-read_at-bits.false (c.read_at.ensures ∙ lower ∙ k)) ∙ c.loop-left.invariant.0

pub returns-after-loop-left-clause-is : goal.returns-after-loop-left-clause-is
returns-after-loop-left-clause-is c = least_last c.args.bits c.args.most.power c.loop-left.digits c.loop-left.left c.loop-left-test.false ∙ c.loop-left.invariant.0
