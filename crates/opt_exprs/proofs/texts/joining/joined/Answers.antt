use Rattle.std.proofs.Common.{ap, ◌∙◌, arith}
use Rattle.ast_types.specs.Reading.{expr_of}
use Rattle.opt_exprs.specs.Parts.{is_text}
use Rattle.opt_exprs.proofs.TextJoins.{joined_more}
use Rattle.opt_exprs.proofs.texts.joining.joined.Goals as goal

pub loop-i-preserved : goal.loop-i-preserved
loop-i-preserved c =
    let x = c.index-parts-i.result in
    joined_more x c.loop-i.invariant (omega arith) (omega arith) c.index-parts-i.is
    (ap (λ y. is_text (expr_of y)) c.index-parts-i.is ∙ c.requires.texts c.loop-i.i x (omega arith) (omega arith))
    c.in_ok-push_written.ensures
