use Rattle.std.proofs.Common.{Some, ap, ◌∙◌}
use Rattle.ast_types.specs.declared.expr.Expr.{Expr}
use Rattle.ast_types.specs.Reading.{expr_of}
use Rattle.opt_switch.proofs.ArmPlaces.{arm_there, arm_missing}
use Rattle.opt_switch.proofs.arms.take_arm.Goals as goal

pub returns-in-Some : goal.returns-in-Some
returns-in-Some c =
    ap (λ (x : Expr). Some (expr_of x, expr_of c.take-in-Some.result)) c.take.ensures.taken
    ∙ ap (λ (x : Expr). Some (expr_of c.in-Some.arm.now.lhs, expr_of x)) c.take-in-Some.ensures.taken
    ∙ arm_there c.args.arms.now c.args.place c.in-Some.arm.now c.in-Some.ensures.value.0 c.in-Some.ensures.value.1

pub returns-in-None : goal.returns-in-None
returns-in-None c = arm_missing c.args.arms.now c.args.place c.in-None.ensures.value
