use Rattle.std.proofs.Common.{ap, ◌∙◌}
use Rattle.base_engine.specs.EngineInfo.{engine_of}
use Rattle.ast_types.specs.declared.expr.BinaryExpr.{BinaryExpr}
use Rattle.ast_types.specs.Reading.{expr_of, expr_of-Variable}
use Rattle.ast_types.proofs.Cases.{expr_cases}
use Rattle.opt_stmts.specs.SettledAssignments.{assigns_itself}
use Rattle.opt_stmts.proofs.Assigning.{no_target_there}
use Rattle.opt_stmts.proofs.OtherAssignments.{no_target}
use Rattle.opt_stmts.proofs.assign.assignment.take_assigned.Goals as goal
use Rattle.opt_stmts.proofs.assign.assignment.take_assigned.Goals.{in_default-via-in-Variable+else-is_empty, in_default-via-in_default}

pub returns-in_default-clause-right : goal.returns-in_default-clause-right
returns-in_default-clause-right c =
    let r = engine_of c.args.info.now in
    let e = expr_of c.args.sides.now.rhs in
    elim c.in_default.branch [
      | in_default-via-in-Variable+else-is_empty w ↦ (ap (λ a. assigns_itself r a e) (ap expr_of w.in-Variable.is ∙ expr_of-Variable _ _ _) ∙ no_target_there r w.in-Variable.parts.2.path w.in-Variable.parts.1 e (rw w.get.ensures at w.if-is_empty.ensures.path), ap (λ (s : BinaryExpr). expr_of s.rhs) w.sides-is)
      | in_default-via-in_default w ↦ (no_target r e (expr_cases c.args.sides.now.lhs) w.in_default.not-Variable, ap (λ (s : BinaryExpr). expr_of s.rhs) w.sides-is)
    ]
