use Rattle.std.proofs.Common.{◌-◌, arith, ◌∙◌, sym, ap}
use Rattle.base_floats.specs.Digits.{until_read, next}
use Rattle.base_floats.proofs.Steps.{read_more, read_stays, read_last, has_room, one_longer, within}
use Rattle.base_floats.proofs.digits.until_read.Goals as goal

pub next-requires : goal.next-requires
next-requires c = has_room c.loop-left.decimal.digits c.loop-left.left c.loop-left-test.true c.loop-left.invariant.2

pub loop-left-preserved : goal.loop-left-preserved
loop-left-preserved c =
    let e = c.loop-left.decimal.power in
    let d = c.loop-left.decimal.digits in
    let n = c.loop-left.left in
    let lower = c.saturating_sub.ensures in (
      ap (λ q. until_read c.args.bits c.saturating_sub.result q (n - 1)) c.next.ensures.is
          ∙ ap (λ p. until_read c.args.bits p (next c.args.bits p d 9) (n - 1)) lower
          ∙ read_more c.args.bits e d n c.loop-left-test.true (λ k. c.if-read_at-bits.true (c.read_at.ensures ∙ k))
          ∙ c.loop-left.invariant.0,
      search arith,
      one_longer d c.next.result n c.loop-left-test.true c.loop-left.invariant.1 c.loop-left.invariant.2 c.next.ensures.one_more,
    )

pub returns-else-read_at-bits-clause-is : goal.returns-else-read_at-bits-clause-is
returns-else-read_at-bits-clause-is c =
    read_stays c.args.bits c.loop-left.decimal.power c.loop-left.decimal.digits c.loop-left.left (sym c.read_at.ensures ∙ c.if-read_at-bits.false) ∙ c.loop-left.invariant.0

pub returns-else-read_at-bits-clause-few : goal.returns-else-read_at-bits-clause-few
returns-else-read_at-bits-clause-few c = within c.loop-left.decimal.digits c.loop-left.left c.loop-left.invariant.2

pub returns-after-loop-left-clause-is : goal.returns-after-loop-left-clause-is
returns-after-loop-left-clause-is c = read_last c.args.bits c.loop-left.decimal.power c.loop-left.decimal.digits c.loop-left.left c.loop-left-test.false ∙ c.loop-left.invariant.0
