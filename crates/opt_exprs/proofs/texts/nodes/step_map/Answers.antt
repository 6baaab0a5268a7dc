use Rattle.std.proofs.Common.{Bool}
use Rattle.std.proofs.lemmas.Result.{IfOk-weaker}
use Rattle.opt_base.specs.State.{progress}
use Rattle.theory_meaning.specs.Engine.{Engine}
use Rattle.ast_types.specs.Reading.{expr_of}
use Rattle.theory_rewriting.specs.Steps.{Place}
use Rattle.opt_base.specs.NodeSteps.{ExprStep}
use Rattle.opt_exprs.specs.Parts.{Folds}
use Rattle.opt_exprs.proofs.Folding.{map_step}
use Rattle.opt_exprs.proofs.texts.nodes.step_map.Goals as goal

pub returns : goal.returns
returns c =
    let s = progress c.args.state.now in
    let s' = progress c.map_of_constants.new.state in
    let e = expr_of c.args.expr.now in
    let e' = expr_of c.map_of_constants.new.expr in
    let P : Bool → Type 0 = λ b. Folds b s s' e e' in
    let Q : Bool → Type 0 = λ b. (r : Engine) (p : Place) → ExprStep b r p s s' e e' in
    IfOk-weaker c.map_of_constants.result P Q (λ b h. map_step b s s' e e' c.requires h) c.map_of_constants.ensures
