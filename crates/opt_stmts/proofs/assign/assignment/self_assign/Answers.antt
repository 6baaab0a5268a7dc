use Rattle.std.proofs.Common.{not, sym, ap, ◌∙◌}
use Rattle.base_engine.specs.EngineInfo.{engine_of}
use Rattle.ast_types.specs.declared.expr.Expr.{Expr}
use Rattle.ast_types.specs.Reading.{expr_of}
use Rattle.rhai_base.specs.Builtin.{operator_of}
use Rattle.theory_meaning.specs.Tree.{Assignment}
use Rattle.opt_stmts.specs.SettledAssignments.{is_settled_assignment}
use Rattle.opt_stmts.proofs.Assigning.{assigns, self_assigned, straight}
use Rattle.opt_stmts.proofs.FiredStatements.{fires_as}
use Rattle.opt_stmts.proofs.assign.assignment.self_assign.Goals as goal

pub returns-in-Some-clause-answer : goal.returns-in-Some-clause-answer
returns-in-Some-clause-answer c =
    let r = engine_of c.args.info.now in
    let l = expr_of c.args.sides.now.lhs in
    let e = expr_of c.args.sides.now.rhs in
    ap not (sym (assigns r l e _ _ c.in-Some.ensures.right)) ∙ ap (λ o. is_settled_assignment r (Assignment o l e)) (sym (straight c.args.operation.now.op c.if-is_op_assignment.ensures))

pub returns-in-Some-clause-step : goal.returns-in-Some-clause-step
returns-in-Some-clause-step c =
    let l = expr_of c.args.sides.now.lhs in
    let e = expr_of c.args.sides.now.rhs in
    let v = expr_of c.in-Some.value in
    let o = operator_of c.in-Some.assignment.op in
    let made = ap (λ (z : Expr). Assignment o (expr_of z) (expr_of c.put_expr.new.place)) c.in-Some.ensures.left ∙ ap (λ (z : Expr). Assignment o l (expr_of z)) c.put_expr.ensures in
    λ w. fires_as (ap (λ z. Assignment z l e) (straight c.args.operation.now.op c.if-is_op_assignment.ensures)) made (self_assigned l e v o c.in-Some.ensures.right c.note_fired.ensures.dirty c.note_fired.ensures.known)
