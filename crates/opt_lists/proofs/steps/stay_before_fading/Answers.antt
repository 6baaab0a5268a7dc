use Rattle.std.proofs.Common.{◌≡◌, ◌-◌, None, length, get_or, refl, sym, ap, ◌∙◌}
use Rattle.ast_types.specs.Reading.{stmt_of}
use Rattle.theory_meaning.specs.Queries.{is_control_flow_break}
use Rattle.opt_lists.specs.Marks.{mark_of}
use Rattle.opt_lists.specs.Sweep.{goes_by}
use Rattle.opt_lists.proofs.Deciding.{there, step_before_noop, step_fades, step_noop}
use Rattle.opt_lists.proofs.Settling.{StaysBy, stays_by}
use Rattle.opt_lists.proofs.steps.stay_before_fading.Goals as goal

pub returns-then-is_noop : goal.returns-then-is_noop
returns-then-is_noop c = λ mark g.
    let s = c.index-as_slice-at.result in
    let t = c.index-as_slice-last.result in
    let xs = c.args.list.now in
    let h : s ≡ get_or xs c.args.at s = rw c.as_slice.ensures at c.index-as_slice-at.is in
    let i : t ≡ get_or xs (length xs - 1) t = (rw c.as_slice-else-is_surely_unit.ensures at c.index-as_slice-last.is) ∙ ap (λ k. get_or xs (k - 1) t) c.len-last.ensures in
    rw c.kept_before.ensures (step_before_noop c.args.fading s t c.requires.inside h i c.requires.fades (sym c.if-is_noop.ensures) (sym c.if-is_surely_unit.ensures) (there is_control_flow_break _ xs c.args.at s h c.requires.stays) (there (goes_by (mark_of mark) c.args.behind.is_quiet) None xs c.args.at s h g))

pub returns-then-is_surely_unit : goal.returns-then-is_surely_unit
returns-then-is_surely_unit c = λ mark g.
    let s = c.index-as_slice-at.result in
    let h : s ≡ get_or c.args.list.now c.args.at s = rw c.as_slice.ensures at c.index-as_slice-at.is in
    let y : StaysBy (mark_of mark) c.args.behind.is_quiet (stmt_of s) = stays_by _ _ _ (there (goes_by (mark_of mark) c.args.behind.is_quiet) None c.args.list.now c.args.at s h g) in
    step_fades c.args.fading s c.requires.inside h c.go_last.ensures c.requires.fades (sym c.if-is_surely_unit.ensures) y.acts

pub returns-else-is_noop : goal.returns-else-is_noop
returns-else-is_noop c = λ mark g.
    let s = c.index-as_slice-at.result in
    let t = c.index-as_slice-last.result in
    let xs = c.args.list.now in
    let h : s ≡ get_or xs c.args.at s = rw c.as_slice.ensures at c.index-as_slice-at.is in
    let i : t ≡ get_or xs (length xs - 1) t = (rw c.as_slice-else-is_surely_unit.ensures at c.index-as_slice-last.is) ∙ ap (λ k. get_or xs (k - 1) t) c.len-last.ensures in
    let y : StaysBy (mark_of mark) c.args.behind.is_quiet (stmt_of s) = stays_by _ _ _ (there (goes_by (mark_of mark) c.args.behind.is_quiet) None xs c.args.at s h g) in
    rw c.end_in_noop.ensures.put (step_noop c.args.fading s t _ c.requires.inside h i refl c.requires.fades (sym c.if-is_noop.ensures) (there is_control_flow_break _ xs c.args.at s h c.requires.stays) y.acts)
