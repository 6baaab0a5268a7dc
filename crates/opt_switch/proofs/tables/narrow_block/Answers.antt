use Rattle.std.proofs.Common.{◌≡◌, Some, refl, sym, ap, ◌∙◌, subst}
use Rattle.ast_types.specs.declared.switch.SwitchBlock.{SwitchBlock}
use Rattle.rhai_base.specs.declared.dynamic.Dynamic.{Dynamic}
use Rattle.rhai_base.specs.Reading.{value_of}
use Rattle.opt_base.specs.State.{progress}
use Rattle.theory_meaning.specs.Constants.{constant_value}
use Rattle.ast_types.specs.Reading.{arms_of, cases_of, expr_of, expressions_of, subject_of, table_of}
use Rattle.opt_switch.specs.Steps.{switch_of, IsNarrowOver, IsNarrow, TableStep}
use Rattle.opt_switch.proofs.Stepped.{narrow_step, table_alone, table_put}
use Rattle.opt_switch.proofs.tables.narrow_block.Goals as goal
use Rattle.opt_switch.proofs.tables.narrow_block.Goals.{in-Owned-1, in-Borrowed-1}

pub returns-in-Some : goal.returns-in-Some
returns-in-Some c =
    let k = c.args.switch.now in
    let s = progress c.args.state.now in
    let s' = progress c.switch_narrows.new.state in
    let t' = c.switch_narrows.new.table in
    let b = c.switch_narrows.result in
    let v = value_of c.deref.result.now in
    let constant : constant_value (expr_of (subject_of k)) ≡ Some v = sym (rw c.in-Some.is at c.in_ok-subject.ensures) ∙ ap (λ (x : Dynamic). Some (value_of x)) (sym c.deref.ensures) in
    let step = table_alone IsNarrow b s s' k t' c.switch_narrows.ensures.arms (narrow_step s s' (expr_of (subject_of k)) (arms_of (expressions_of (cases_of k))) (table_of (cases_of k)) (table_of t') v constant b c.switch_narrows.ensures.noted c.switch_narrows.ensures.narrows) in
    elim c.match-subject.branch [
      | in-Owned-1 w ↦ subst (λ (y : SwitchBlock). TableStep IsNarrow b s s' (switch_of k) (switch_of y)) (sym w.switch-is) step
      | in-Borrowed-1 w ↦ subst (λ (y : SwitchBlock). TableStep IsNarrow b s s' (switch_of k) (switch_of y)) (sym w.switch-is) step
    ]

pub returns-in-None : goal.returns-in-None
returns-in-None c =
    let k = c.args.switch.now in
    let narrow = subst (IsNarrowOver (arms_of (expressions_of (cases_of k))) (table_of (cases_of k))) (rw c.in-None.is at c.in_ok-subject.ensures) tt in
    (table_put k (cases_of k), (refl, narrow))
