use Rattle.std.proofs.Common.{Bool}
use Rattle.std.proofs.lemmas.Result.{IfOk-weaker}
use Rattle.opt_base.specs.State.{progress}
use Rattle.theory_meaning.specs.Engine.{Engine}
use Rattle.ast_types.specs.Reading.{expr_of}
use Rattle.theory_rewriting.specs.Steps.{Place}
use Rattle.opt_base.specs.Folded.{FoldsConstant}
use Rattle.opt_base.specs.NodeSteps.{ExprStep}
use Rattle.opt_rules.proofs.Shapes.{array_step}
use Rattle.opt_rules.proofs.expressions.array_of_constants.Goals as goal

pub returns : goal.returns
returns c =
    let s = progress c.args.state.now in
    let s' = progress c.fold_constant.new.state in
    let e = expr_of c.args.expr.now in
    let e' = expr_of c.fold_constant.new.expr in
    let P : Bool → Type 0 = λ b. FoldsConstant b s s' e e' in
    let Q : Bool → Type 0 = λ b. (r : Engine) (p : Place) → ExprStep b r p s s' e e' in
    IfOk-weaker c.fold_constant.result P Q (λ b h. array_step b s s' e e' c.requires h) c.fold_constant.ensures
