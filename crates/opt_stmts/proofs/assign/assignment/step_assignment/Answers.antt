use Rattle.std.proofs.Common.{◌≡◌, rules, true, false, sym, ap, ◌∙◌}
use Rattle.base_tokens.specs.declared.op_assignment.OpAssignment.{OpAssignment}
use Rattle.ast_types.specs.declared.expr.BinaryExpr.{BinaryExpr}
use Rattle.ast_types.specs.Reading.{shapes, expr_of, stmt_of, stmt_of-Assignment}
use Rattle.ast_types.proofs.Cases.{stmt_cases}
use Rattle.rhai_base.specs.Builtin.{operator_of}
use Rattle.opt_stmts.specs.Assigning.{assignment_of}
use Rattle.opt_stmts.proofs.FiredStatements.{fires_as}
use Rattle.opt_stmts.proofs.OtherAssignments.{no_assignment}
use Rattle.opt_stmts.proofs.Settled.{assignment_kept, kept_when}
use Rattle.opt_stmts.proofs.assign.assignment.step_assignment.Goals as goal

pub returns-then-self_assign-clause-step : goal.returns-then-self_assign-clause-step
returns-then-self_assign-clause-step c =
    let x = ap stmt_of c.in-Assignment.is ∙ stmt_of-Assignment _ ∙ ap (λ (p : OpAssignment × BinaryExpr). assignment_of p.0 p.1) (sym (c.get_mut.ensures.value ∙ c.in-Assignment.parts-is)) in
    λ w. fires_as x (search (rules, shapes)) (c.if-self_assign.ensures.step w)

pub returns-else-self_assign-clause-step : goal.returns-else-self_assign-clause-step
returns-else-self_assign-clause-step c =
    let p = c.get_mut.result.now in
    let x = ap stmt_of c.in-Assignment.is ∙ stmt_of-Assignment _ ∙ ap (λ (p : OpAssignment × BinaryExpr). assignment_of p.0 p.1) (sym (c.get_mut.ensures.value ∙ c.in-Assignment.parts-is)) in
    λ w. let stays = c.if-self_assign.ensures.step w in
    kept_when stays.1 (assignment_kept (operator_of p.0.op) (expr_of p.1.lhs) (expr_of p.1.rhs) x (search (rules, shapes) ∙ stays.0 ∙ sym x) (sym c.if-self_assign.ensures.answer))

pub returns-in_default : goal.returns-in_default
returns-in_default c = absurd (let z : false ≡ true = no_assignment (stmt_cases c.args.statement.now) c.in_default.not-Assignment ∙ c.requires in cc)
