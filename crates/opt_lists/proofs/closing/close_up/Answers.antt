use Rattle.std.proofs.Common.{◌≡◌, ◌<◌, Bool, true, false, length, sym, ◌∙◌, arith}
use Rattle.ast_types.specs.declared.stmt.Stmt.{Stmt}
use Rattle.opt_lists.proofs.Marked.{marks, closing_mark, closing_keep, closing_end}
use Rattle.opt_lists.proofs.closing.close_up.Goals as goal
use Rattle.opt_lists.proofs.closing.close_up.Goals.{then-not-is_mark, else-not-is_mark}

pub loop-at-preserved : goal.loop-at-preserved
loop-at-preserved c =
    let here = c.loop-at.list in
    let m : (b : Bool) → c.is_mark.result ≡ b → (d : Stmt) → b ≡ marks c.args.is_wanted here c.loop-at.at d = λ b h d. sym h ∙ (rw c.as_slice.ensures at (c.is_mark.ensures d)) in
    let lt : c.loop-at.at < length here = omega (arith, c.loop-at.invariant.len, c.len-at-end.ensures) in
    elim c.if-not-is_mark.branch [
      | then-not-is_mark w ↦ rw (w.list-is, w.kept-is) (closing_keep c.loop-at.invariant lt (m false w.if-not-is_mark.true) w.move_down.ensures.front w.move_down.ensures.back w.move_down.ensures.len)
      | else-not-is_mark w ↦ rw (w.list-is, w.kept-is) (closing_mark c.loop-at.invariant lt (m true w.if-not-is_mark.false))
    ]

pub returns-clause-closed : goal.returns-clause-closed
returns-clause-closed c = closing_end c.loop-at.invariant (omega (arith, c.len-at-end.ensures)) c.truncate.ensures
