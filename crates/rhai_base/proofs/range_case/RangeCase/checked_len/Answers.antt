use Rattle.std.proofs.Common.{rules, w64, ◌≡◌, true, false, sym, ◌∙◌}
use Rattle.std.proofs.lemmas.Int.{to_z-of_z}
use mir.Val.{SFits}
use Rattle.rhai_base.proofs.RangeCases.{open_len, closed_len, closed_too_long}
use Rattle.rhai_base.proofs.range_case.RangeCase.checked_len.Goals as goal

pub returns-in-ExclusiveInt : goal.returns-in-ExclusiveInt
returns-in-ExclusiveInt c =
    let start_fits : SFits w64 c.in-ExclusiveInt.range.start = search rules in
    let end_fits : SFits w64 c.in-ExclusiveInt.range.end = search rules in
    open_len _ _ _ _ c.in-ExclusiveInt.is (λ q. let p : false ≡ true = sym c.if-is_empty.false ∙ c.is_empty.ensures.1 q in cc) (simp to_z-of_z at c.checked_sub.ensures)

pub returns-in-Some : goal.returns-in-Some
returns-in-Some c =
    let start_fits : SFits w64 c.start.result.now = search rules in
    let end_fits : SFits w64 c.end.result.now = search rules in
    let steps_fit : SFits w64 c.in-Some.steps = search rules in
    closed_len _ c.in-InclusiveInt.range _ c.in-Some.steps _ c.in-InclusiveInt.is (λ q. let p : false ≡ true = sym c.if-is_empty.false ∙ c.is_empty.ensures.1 q in cc)
    (rw (c.end.ensures, c.start.ensures) at (simp to_z-of_z at c.in-Some.ensures)) (simp to_z-of_z at c.checked_add.ensures)

pub returns-in-None : goal.returns-in-None
returns-in-None c =
    let start_fits : SFits w64 c.start.result.now = search rules in
    let end_fits : SFits w64 c.end.result.now = search rules in
    closed_too_long _ c.in-InclusiveInt.range _ c.in-InclusiveInt.is (λ q. let p : false ≡ true = sym c.if-is_empty.false ∙ c.is_empty.ensures.1 q in cc)
    (rw (c.end.ensures, c.start.ensures) at (simp to_z-of_z at c.in-None.ensures))
