use Rattle.std.proofs.Common.{SFits, w64, refl}
use Rattle.std.proofs.lemmas.Int.{to_z-of_z}
use Rattle.theory_grammar.specs.Words.{next}
use Rattle.syntax_grammar.proofs.NumberSteps.{zero_before}
use Rattle.syntax_grammar.proofs.numbers.past_number.Goals as goal

pub returns-in-Some : goal.returns-in-Some
returns-in-Some c =
    let fits : SFits w64 c.args.value = c.ranges.value in
    let stands = simp to_z-of_z at c.in-Some.ensures in
    zero_before c.in_ok-first.first c.args.value c.args.value refl c.behind_blanks-start.ensures c.in_ok-first.ensures.1 c.if-first-eq48.true stands

pub returns : goal.returns
returns c =
    let fits : SFits w64 c.args.value = c.ranges.value in
    let stands = simp to_z-of_z at c.in_ok-next.ensures in
    next c.behind_blanks-start.ensures stands
