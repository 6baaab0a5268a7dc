use Rattle.std.proofs.Common.{sym, ap, ◌∙◌}
use Rattle.theory_meaning.specs.Shape.{is_true}
use Rattle.ast_types.specs.declared.expr.BinaryExpr.{BinaryExpr}
use Rattle.ast_types.specs.Reading.{expr_of}
use Rattle.ast_alike.proofs.Defaults.{condition_there, condition_nowhere}
use Rattle.ast_alike.proofs.tables.condition_at.Goals as goal

pub returns-in-Some : goal.returns-in-Some
returns-in-Some c =
    c.is_true.ensures ∙ ap (λ (b : BinaryExpr). is_true (expr_of b.lhs)) c.in-Some.ensures.lookup.1
    ∙ sym (condition_there c.args.arms.now c.args.at c.in-Some.arm.now c.in-Some.ensures.lookup.3.0)

pub returns-in-None : goal.returns-in-None
returns-in-None c = sym (condition_nowhere c.args.arms.now c.args.at c.in-None.ensures.lookup.3)
