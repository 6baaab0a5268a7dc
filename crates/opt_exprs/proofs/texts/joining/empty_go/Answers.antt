use Rattle.std.proofs.Common.{◌≡◌, ◌<◌, ◌∷◌, ◌++◌, [], true, length, get_or, take, refl, sym, ap, ◌∙◌, arith}
use Rattle.ast_types.specs.Reading.{expr_of}
use Rattle.opt_exprs.specs.Parts.{is_empty_part}
use Rattle.opt_exprs.proofs.TextJoins.{moving_start, moving_skip, moving_more, moving_end, first_stays, alone_at}
use Rattle.opt_exprs.proofs.texts.joining.empty_go.Goals as goal
use Rattle.opt_exprs.proofs.texts.joining.empty_go.Goals.{then-not-is_empty_part, else-not-is_empty_part}

pub loop-at-init : goal.loop-at-init
loop-at-init c = moving_start

pub loop-at-preserved : goal.loop-at-preserved
loop-at-preserved c =
    let here = c.loop-at.parts in
    let at = c.loop-at.at in
    let x = c.index-as_slice-at.result in
    let lt : at < length here = omega (arith, c.loop-at.invariant.len, c.len-at-end.ensures) in
    let h : x ≡ get_or here at x = rw c.as_slice.ensures at c.index-as_slice-at.is in
    elim c.if-not-is_empty_part.branch [
      | then-not-is_empty_part w ↦ rw (w.parts-is, w.kept-is) (moving_more x c.loop-at.invariant (alone_at x lt refl h (first_stays here at x lt h (sym c.is_empty_part.ensures ∙ w.if-not-is_empty_part.true))) h (w.move_down.ensures.front x ∙ ap (λ y. take c.loop-at.kept here ++ y ∷ []) (sym h)) w.move_down.ensures.back w.move_down.ensures.len w.move_down.ensures.same)
      | else-not-is_empty_part w ↦
          let g : is_empty_part (expr_of x) ≡ true = sym c.is_empty_part.ensures ∙ w.if-not-is_empty_part.false in
          rw (w.parts-is, w.kept-is) (moving_skip x c.loop-at.invariant lt h g)
    ]

pub returns : goal.returns
returns c = moving_end c.loop-at.invariant (omega (arith, c.len-at-end.ensures)) c.truncate.ensures
