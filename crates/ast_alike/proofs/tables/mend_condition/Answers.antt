use Rattle.std.proofs.Common.{ap, ◌∙◌}
use Rattle.theory_spelling.specs.Bare.{as_condition}
use Rattle.ast_types.specs.declared.expr.BinaryExpr.{BinaryExpr}
use Rattle.ast_types.specs.declared.expr.Expr.TheViews as views
use Rattle.ast_types.specs.Reading.{expr_of}
use Rattle.ast_alike.proofs.Defaults.{mended, mended_nowhere}
use Rattle.ast_alike.proofs.tables.mend_condition.Goals as goal

pub returns-in_ok-arm : goal.returns-in_ok-arm
returns-in_ok-arm c =
    mended c.args.had c.args.arms.now c.args.at c.in-Some.arm.now (views.roll-BinaryExpr (record { lhs = c.in_ok-arm.field-0; rhs = c.in-Some.arm.now.rhs })) c.in-Some.ensures.value.0
    (ap (λ o. expr_of o.lhs) (views.out-roll-BinaryExpr (record { lhs = c.in_ok-arm.field-0; rhs = c.in-Some.arm.now.rhs })) ∙ c.in_ok-arm.ensures ∙ ap (λ e. as_condition c.args.had (expr_of e)) c.take.ensures.value
    ∙ ap (λ (b : BinaryExpr). as_condition c.args.had (expr_of b.lhs)) c.in-Some.ensures.value.1)
    (ap (λ o. o.rhs) (views.out-roll-BinaryExpr (record { lhs = c.in_ok-arm.field-0; rhs = c.in-Some.arm.now.rhs })) ∙ ap (λ (b : BinaryExpr). b.rhs) c.in-Some.ensures.value.1)

pub returns-in_default : goal.returns-in_default
returns-in_default c = mended_nowhere c.args.had c.args.arms.now c.args.at c.in_default.ensures.value
