use Rattle.std.proofs.Common.{◌≡◌, true, false}
use Rattle.std.proofs.lemmas.Result.{IfOk-weaker}
use Rattle.opt_base.specs.State.{progress}
use Rattle.ast_types.specs.Reading.{arms_of, cases_of, expr_of, expressions_of, subject_of, table_of}
use Rattle.opt_switch.specs.Steps.{switch_of, Forgets, IsNarrow, IsShrunk, HasForgotten}
use Rattle.opt_switch.proofs.Stepped.{shrink_step, forget_step, kept_then, table_alone, arms_alone, with_table}
use Rattle.opt_switch.proofs.tables.step_block.Goals as goal

pub returns-then-switch_shrinks : goal.returns-then-switch_shrinks
returns-then-switch_shrinks c =
    let k = c.narrow_block.new.switch in
    let s1 = progress c.narrow_block.new.state in
    let s2 = progress c.switch_shrinks.new.state in
    let t' = c.switch_shrinks.new.table in
    let e = c.switch_shrinks.ensures in
    let step = shrink_step s1 s2 (expr_of (subject_of k)) (arms_of (expressions_of (cases_of k))) (table_of (cases_of k)) (table_of t') true (rw c.if-switch_shrinks.true at e.noted) (rw c.if-switch_shrinks.true at e.shrinks) in
    kept_then IsNarrow IsShrunk true (progress c.args.state.now) s1 s2 (switch_of c.args.switch.now) (switch_of k) _ (rw c.if-branch.false at c.in_ok-narrow_block.ensures) (table_alone IsShrunk true s1 s2 k t' e.arms step)

pub returns : goal.returns
returns c =
    let k = c.narrow_block.new.switch in
    let s = progress c.args.state.now in
    let s1 = progress c.narrow_block.new.state in
    let s2 = progress c.switch_shrinks.new.state in
    let s3 = progress c.switch_forgets.new.state in
    let t1 = c.switch_shrinks.new.table in
    let k1 = with_table k t1 in
    let t2 = c.switch_forgets.new.table in
    let e = c.switch_shrinks.ensures in
    let x = switch_of c.args.switch.now in
    let narrowed = rw c.if-branch.false at c.in_ok-narrow_block.ensures in
    let shrunk = table_alone IsShrunk false s1 s2 k t1 e.arms (shrink_step s1 s2 (expr_of (subject_of k)) (arms_of (expressions_of (cases_of k))) (table_of (cases_of k)) (table_of t1) false (rw c.if-switch_shrinks.false at e.noted) (rw c.if-switch_shrinks.false at e.shrinks)) in
    let before = kept_then IsNarrow IsShrunk false s s1 s2 x (switch_of k) (switch_of k1) narrowed shrunk in
    IfOk-weaker _ (λ fired. (table_of t2 ≡ table_of (cases_of k1)) × Forgets fired s2 s3 (table_of (cases_of k1)) (arms_of (expressions_of (cases_of k1))) (arms_of (expressions_of t2))) _
    (λ fired q. kept_then (λ y. IsNarrow y × IsShrunk y) HasForgotten fired s s2 s3 x (switch_of k1) (switch_of (with_table k1 t2)) before (arms_alone HasForgotten fired s2 s3 k1 t2 q.0 (forget_step s2 s3 (expr_of (subject_of k1)) (table_of (cases_of k1)) (arms_of (expressions_of (cases_of k1))) (arms_of (expressions_of t2)) fired q.1))) c.switch_forgets.ensures
