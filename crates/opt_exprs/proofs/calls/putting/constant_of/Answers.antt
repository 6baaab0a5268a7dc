use Rattle.std.proofs.Common.{◌≡◌, sym, ◌∙◌}
use Rattle.std.proofs.lemmas.Result.{IfOk-weaker}
use Rattle.ast_types.specs.declared.expr.Expr.{Expr}
use Rattle.rhai_base.specs.Reading.{value_of}
use Rattle.theory_meaning.specs.Constants.{constant_for}
use Rattle.theory_meaning.specs.Tree.{DynamicConstant}
use Rattle.ast_types.specs.Reading.{expr_of}
use Rattle.opt_exprs.proofs.Folds.{held_for, held_pointer}
use Rattle.opt_exprs.proofs.calls.putting.constant_of.Goals as goal

pub returns-then-is_pointer : goal.returns-then-is_pointer
returns-then-is_pointer c =
    let P : Expr → Type 0 = λ e. expr_of e ≡ DynamicConstant (value_of c.args.value) in
    IfOk-weaker _ P _ (λ e x. x ∙ held_pointer _ (sym c.if-is_pointer.ensures)) c.dynamic_constant.ensures

pub returns : goal.returns
returns c =
    let P : Expr → Type 0 = λ e. expr_of e ≡ constant_for (value_of c.args.value) in
    IfOk-weaker _ P _ (λ e x. x ∙ held_for _ (sym c.if-is_pointer.ensures)) c.from_dynamic.ensures.value
