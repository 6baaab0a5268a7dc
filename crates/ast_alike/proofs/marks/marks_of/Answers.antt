use Rattle.std.proofs.Common.{List, map, ap, ◌∙◌}
use Rattle.rhai_base.specs.declared.range_case.RangeCase.{RangeCase}
use Rattle.theory_meaning.specs.Walk.{arms_of_cases, arms_of_ranges, arm_of_default, listed}
use Rattle.ast_types.specs.Reading.{range_of, table_of}
use Rattle.theory_spelling.specs.Listed.{marked}
use Rattle.ast_alike.proofs.Numbers.{marks_listed}
use Rattle.ast_alike.proofs.marks.marks_of.Goals as goal

pub returns : goal.returns
returns c =
    let t = table_of c.args.table.now in
    let d = arm_of_default t.default in
    c.mark_default.ensures
    ∙ ap (λ m. marked m d) (c.mark_ranges.ensures ∙ ap (λ (l : List RangeCase). marked c.mark_cases.new.marks.items (arms_of_ranges (map range_of l))) c.as_slice.ensures ∙ ap (λ m. marked m (arms_of_ranges t.ranges)) c.mark_cases.ensures)
    ∙ marks_listed c.in_ok-marks.marks.items (arms_of_cases t.cases) (arms_of_ranges t.ranges) d
    ∙ ap (λ m. marked m (listed t)) c.in_ok-marks.ensures
