use Rattle.std.proofs.Common.{Bool}
use Rattle.std.proofs.lemmas.Result.{IfOk-weaker}
use Rattle.opt_base.specs.State.{progress}
use Rattle.ast_types.specs.Reading.{expr_of}
use Rattle.opt_base.specs.Folded.{FoldsConstant}
use Rattle.opt_exprs.specs.Parts.{Folds}
use Rattle.opt_exprs.proofs.Folding.{text_folded}
use Rattle.opt_exprs.proofs.texts.nodes.text_folds.Goals as goal

pub returns : goal.returns
returns c =
    let s = progress c.args.state.now in
    let s' = progress c.fold_constant.new.state in
    let e = expr_of c.args.expr.now in
    let e' = expr_of c.fold_constant.new.expr in
    let P : Bool → Type 0 = λ b. FoldsConstant b s s' e e' in
    let Q : Bool → Type 0 = λ b. Folds b s s' e e' in
    IfOk-weaker c.fold_constant.result P Q (λ b h. text_folded b s s' e e' c.requires h) c.fold_constant.ensures
