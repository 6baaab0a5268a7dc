use Rattle.std.proofs.Common.{◌≡◌, true, false, sym, ap, ◌∙◌}
use Rattle.ast_types.specs.declared.stmt.FlowControl.{FlowControl}
use Rattle.ast_types.specs.Reading.{expr_of, stmt_of, stmts_of, stmt_of-If}
use Rattle.ast_types.proofs.Cases.{stmt_cases}
use Rattle.theory_meaning.specs.Constants.{constant_bool}
use Rattle.opt_base.proofs.Stepping.{stmt_put, stmt_rewrite_as}
use Rattle.opt_stmts.specs.Flows.{if_of}
use Rattle.opt_stmts.specs.SettledChoices.{is_nest}
use Rattle.opt_stmts.proofs.Choosing.{settled_if}
use Rattle.opt_stmts.proofs.FiredStatements.{fires_by}
use Rattle.opt_stmts.proofs.OtherChoices.{no_if}
use Rattle.opt_stmts.proofs.Settled.{if_kept}
use Rattle.opt_stmts.proofs.choice.step.step_if.Goals as goal

pub join_ifs-requires : goal.join_ifs-requires
join_ifs-requires c =
    let f = c.get_mut.result.now in
    let q = rw c.in-None.is at c.in_ok-made-in-If.ensures in
    let same = c.get_mut-in-None.ensures.value ∙ q.1 in
    record { undecided = ap (λ (g : FlowControl). constant_bool (expr_of g.expr)) same ∙ settled_if (expr_of f.expr) (stmts_of f.body.block) (stmts_of f.branch.block) q.0 }

pub returns-then-not-branch-clause-step : goal.returns-then-not-branch-clause-step
returns-then-not-branch-clause-step c =
    let f = c.get_mut.result.now in
    let x = ap stmt_of c.in-If.is ∙ stmt_of-If _ _ ∙ ap (λ (f : FlowControl). if_of f) (sym (c.get_mut.ensures.value ∙ c.in-If.flow-is)) in
    let q = rw c.in-None.is at c.in_ok-made-in-If.ensures in
    let same = c.get_mut-in-None.ensures.value ∙ q.1 in
    let joined = c.in_ok-join_ifs-in-None.ensures in
    λ r. if_kept (expr_of f.expr) (stmts_of f.body.block) (stmts_of f.branch.block) x
    (stmt_of-If _ _ ∙ (rw c.if-not-branch.true at joined.rule) ∙ ap (λ (g : FlowControl). if_of g) same ∙ sym x) q.0
    (ap (λ (g : FlowControl). is_nest (if_of g)) (sym same) ∙ sym joined.answer ∙ c.if-not-branch.true)

pub returns-in-Some-clause-step : goal.returns-in-Some-clause-step
returns-in-Some-clause-step c =
    let x = ap stmt_of c.in-If.is ∙ stmt_of-If _ _ ∙ ap (λ (f : FlowControl). if_of f) (sym (c.get_mut.ensures.value ∙ c.in-If.flow-is)) in
    let q = rw c.in-Some.is at c.in_ok-made-in-If.ensures in
    λ r. stmt_put r _ c.args.is_wanted _ _ _ _ _ q.1 c.put_made.ensures.dirty c.put_made.ensures.known (stmt_rewrite_as x (ap stmt_of c.put_made.ensures.made) q.2)

pub returns-else-not-branch-clause-step : goal.returns-else-not-branch-clause-step
returns-else-not-branch-clause-step c =
    let x = ap stmt_of c.in-If.is ∙ stmt_of-If _ _ ∙ ap (λ (f : FlowControl). if_of f) (sym (c.get_mut.ensures.value ∙ c.in-If.flow-is)) in
    let q = rw c.in-None.is at c.in_ok-made-in-If.ensures in
    let same = c.get_mut-in-None.ensures.value ∙ q.1 in
    λ r. fires_by c.note_fired.ensures.dirty c.note_fired.ensures.known
    (stmt_rewrite_as (x ∙ ap (λ (g : FlowControl). if_of g) (sym same)) (stmt_of-If _ _) ((rw c.if-not-branch.false at c.in_ok-join_ifs-in-None.ensures.rule) c.args.is_wanted))

pub returns-in_default : goal.returns-in_default
returns-in_default c = absurd (let z : false ≡ true = no_if (stmt_cases c.args.statement.now) c.in_default.not-If ∙ c.requires in cc)
