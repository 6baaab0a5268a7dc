use Rattle.std.proofs.Common.{false, refl, sym, ap, ◌∙◌}
use Rattle.ast_types.specs.Reading.{arms_of, expressions_of}
use Rattle.opt_switch.specs.Forgetting.{forgets, loses_answers}
use Rattle.opt_switch.proofs.Forgotten.{forgets_none}
use Rattle.opt_switch.proofs.Stepped.{arms_put, marks_are, table_kept}
use Rattle.opt_switch.proofs.tables.switch_forgets.Goals as goal

pub returns-then-not-forget_answers : goal.returns-then-not-forget_answers
returns-then-not-forget_answers c =
    let as' = arms_of (expressions_of c.args.table.now) in
    let marks = c.as_slice.ensures.value ∙ c.in_ok-marks.ensures ∙ marks_are c.args.table.now in
    let stay = sym c.forget_answers.ensures.loses ∙ c.if-not-forget_answers.true in
    (table_kept c.args.table.now c.forget_answers.new.arms, (refl, (ap (λ m. loses_answers m as') (sym marks) ∙ stay, arms_put c.args.table.now c.forget_answers.new.arms ∙ c.forget_answers.ensures.arms ∙ forgets_none c.as_slice.result.now as' stay)))

pub returns : goal.returns
returns c =
    let as' = arms_of (expressions_of c.args.table.now) in
    let marks = c.as_slice.ensures.value ∙ c.in_ok-marks.ensures ∙ marks_are c.args.table.now in (
      table_kept c.args.table.now c.forget_answers.new.arms,
      (
        (c.note_fired.ensures.dirty, c.note_fired.ensures.known),
        (
          ap (λ m. loses_answers m as') (sym marks) ∙ sym c.forget_answers.ensures.loses ∙ c.if-not-forget_answers.false,
          arms_put c.args.table.now c.forget_answers.new.arms ∙ c.forget_answers.ensures.arms ∙ ap (λ m. forgets m as') marks,
        ),
      ),
    )
