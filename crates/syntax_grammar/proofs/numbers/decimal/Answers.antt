use Rattle.std.proofs.Common.{SFits, w64, sym, ◌∙◌}
use Rattle.std.proofs.lemmas.Int.{to_z-of_z}
use Rattle.syntax_grammar.proofs.NumberSteps.{decimal_at}
use Rattle.syntax_grammar.proofs.numbers.decimal.Goals as goal

pub returns-then-is_positive : goal.returns-then-is_positive
returns-then-is_positive c =
    let fits : SFits w64 c.args.value = c.ranges.value in
    let positive = simp to_z-of_z at c.is_positive.ensures in
    decimal_at _ c.in_ok-first.first c.in_ok-bits.bits c.args.value c.in_ok-first.ensures.1 (sym c.is_decimal.ensures ∙ c.if-is_decimal.true) (sym c.is_whole.ensures ∙ c.if-is_whole.true) c.in_ok-bits.ensures.0 c.in_ok-bits.ensures.1 (positive c.if-is_positive.true)
