use Rattle.opt_exprs.proofs.Folding.{text_passed, text_changed, ast_same}
use Rattle.opt_exprs.proofs.texts.nodes.step_text.Goals as goal

pub returns-then-branch : goal.returns-then-branch
returns-then-branch c = text_passed (rw c.if-branch.true at c.in_ok-text_folds.ensures)

pub returns-then-branch-2 : goal.returns-then-branch-2
returns-then-branch-2 c =
    let q = rw c.if-branch.false at c.in_ok-text_folds.ensures in
    let n = rw c.if-branch-2.true at c.in_ok-change_text.ensures in
    text_changed q c.note_fired.ensures.dirty c.note_fired.ensures.known n

pub returns : goal.returns
returns c =
    let q = rw c.if-branch.false at c.in_ok-text_folds.ensures in
    let n = rw c.if-branch-2.false at c.in_ok-change_text.ensures in
    ast_same c.requires q n
