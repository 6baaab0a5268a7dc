use Rattle.std.proofs.Common.{◌≡◌, get_or, set, sym, ap, ◌∙◌}
use Rattle.theory_meaning.specs.Queries.{is_control_flow_break}
use Rattle.ast_types.specs.Reading.{stmt_of}
use Rattle.opt_lists.specs.Steps.{Declared, BaredAt}
use Rattle.opt_lists.specs.Sweep.{bared}
use Rattle.opt_lists.proofs.Deciding.{there, cut-there, step_bares, step_leaves}
use Rattle.opt_lists.proofs.steps.leave.Goals as goal

pub returns-then-returns_value : goal.returns-then-returns_value
returns-then-returns_value c =
    let s = c.index-as_slice-at.result in
    let new = c.leave_none_behind.new.list in
    let e = c.leave_none_behind.ensures in
    let h1 : s ≡ get_or new c.args.at s = rw c.as_slice.ensures at c.index-as_slice-at.is in
    let h : s ≡ get_or c.args.list.now c.args.at s = cut-there c.args.behind.is_last c.args.list.now new c.args.at s e h1 in
    let b : BaredAt c.args.at new c.last_return.new.list (get_or new c.args.at s) = c.last_return.ensures.bared s in
    step_bares s b.expression c.requires.inside h
    (b.put ∙ ap (λ (z : Declared). set z c.args.at b.expression) e)
    (b.reads ∙ sym (ap (λ z. bared (stmt_of z)) h1))
    (sym c.if-returns_value.ensures)

pub returns : goal.returns
returns c =
    let s = c.index-as_slice-at.result in
    let new = c.leave_none_behind.new.list in
    let e = c.leave_none_behind.ensures in
    let h1 : s ≡ get_or new c.args.at s = rw c.as_slice.ensures at c.index-as_slice-at.is in
    let h : s ≡ get_or c.args.list.now c.args.at s = cut-there c.args.behind.is_last c.args.list.now new c.args.at s e h1 in
    rw c.left_by.ensures (step_leaves s c.requires.inside h e (there is_control_flow_break _ c.args.list.now c.args.at s h c.requires.leaves) (sym c.if-returns_value.ensures))
