use Rattle.std.proofs.Common.{◌≡◌, ◌<◌, ◌+◌, ◌∷◌, ◌++◌, [], true, false, length, get_or, take, sym, ap, ◌∙◌, arith}
use Rattle.ast_types.specs.Reading.{expr_of}
use Rattle.opt_exprs.specs.Operands.{Declared, goes_on, decides}
use Rattle.opt_exprs.proofs.Moving.{passing_start, passing_keep, passing_skip, passing_end, passing_decided}
use Rattle.opt_exprs.proofs.operands.pass.pass.Goals as goal
use Rattle.opt_exprs.proofs.operands.pass.pass.Goals.{then-not-goes, else-not-goes}

pub loop-at-init : goal.loop-at-init
loop-at-init c = passing_start

pub returns-then-decides : goal.returns-then-decides
returns-then-decides c = passing_decided c.loop-at.invariant (omega (arith, c.loop-at.invariant.len, c.len-at-end.ensures)) c.end_at.ensures

pub loop-at-preserved : goal.loop-at-preserved
loop-at-preserved c =
    let here = c.loop-at.operands in
    let at = c.loop-at.at in
    let x = c.index-as_slice-at.result in
    let lt : at < length here = omega (arith, c.loop-at.invariant.len, c.len-at-end.ensures) in
    let h : x ≡ get_or here at x = rw c.as_slice.ensures at c.index-as_slice-at.is in
    let d : decides c.args.operation (expr_of x) ≡ false = sym c.if-decides.ensures in
    let lent = c.as_slice-in-loop-at in
    let here-is : goes_on c.args.operation (expr_of x) ≡ goes_on c.args.operation (expr_of (get_or lent.result.now at x)) = ap (λ y. goes_on c.args.operation (expr_of y)) (h ∙ ap (λ (z : Declared). get_or z at x) (sym lent.ensures)) in
    elim c.if-not-goes.branch [
      | then-not-goes w ↦
          let stays = λ (m : at + 1 < c.loop-at.kept + length here). here-is ∙ c.goes.ensures.stays w.if-not-goes.true (rw lent.ensures m) x in
          rw (w.operands-is, w.kept-is) (passing_keep x c.loop-at.invariant lt h d stays (w.move_down.ensures.front x ∙ ap (λ y. take c.loop-at.kept here ++ y ∷ []) (sym h)) w.move_down.ensures.back w.move_down.ensures.len w.move_down.ensures.same)
      | else-not-goes w ↦
          let g : goes_on c.args.operation (expr_of x) ≡ true = here-is ∙ c.goes.ensures.goes_on w.if-not-goes.false x in
          let more : at + 1 < c.loop-at.kept + length here = rw lent.ensures at (c.goes.ensures.others w.if-not-goes.false) in
          rw (w.operands-is, w.kept-is) (passing_skip x c.loop-at.invariant lt h g more)
    ]

pub returns : goal.returns
returns c = passing_end c.loop-at.invariant (omega (arith, c.len-at-end.ensures)) c.truncate.ensures
