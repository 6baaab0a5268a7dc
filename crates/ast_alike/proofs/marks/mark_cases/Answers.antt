use Rattle.std.proofs.Common.{map, sym, ap, ◌∙◌}
use Rattle.theory_meaning.specs.Walk.{arms_of_cases}
use Rattle.ast_types.specs.Reading.{case_of}
use Rattle.theory_spelling.specs.Listed.{marked}
use Rattle.ast_alike.proofs.Numbers.{marked-more}
use Rattle.ast_alike.proofs.marks.mark_cases.Goals as goal

pub loop-case-preserved : goal.loop-case-preserved
loop-case-preserved c =
    let blocks = c.in-Some.case.1.now.blocks in
    let rest = arms_of_cases (map case_of c.next.new.self) in
    c.loop-case.invariant
    ∙ ap (λ es. marked c.loop-case.marks.items (arms_of_cases (map case_of es))) c.in-Some.ensures.steps
    ∙ marked-more c.loop-case.marks.items blocks rest
    ∙ sym (ap (λ m. marked m rest) (c.mark_all.ensures ∙ ap (marked c.loop-case.marks.items) c.as_slice.ensures))
