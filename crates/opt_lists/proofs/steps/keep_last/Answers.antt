use Rattle.std.proofs.Common.{◌≡◌, get_or, sym, ap, ◌∙◌}
use Rattle.ast_types.specs.declared.stmt.Stmt as declared_stmt
use Rattle.ast_types.specs.Reading.{stmt_of}
use Rattle.theory_meaning.specs.Queries.{is_control_flow_break, is_noop}
use Rattle.opt_lists.specs.Marks.{mark_of}
use Rattle.opt_lists.proofs.Deciding.{there, item-same, loud_acts, step_last, step_quiets}
use Rattle.opt_lists.proofs.steps.keep_last.Goals as goal

pub last_unit_noop-requires-clause-acts : goal.last_unit_noop-requires-clause-acts
last_unit_noop-requires-clause-acts c = λ d.
    let s = c.index-as_slice-at.result in
    let h : s ≡ get_or c.args.list.now c.args.at s = rw c.as_slice.ensures at c.index-as_slice-at.is in
    ap (λ (z : declared_stmt.Stmt). is_noop (stmt_of z)) (item-same c.args.list.now c.args.at s d c.requires.inside h)
    ∙ loud_acts (mark_of c.args.mark) (stmt_of s) (sym c.if-fades_aloud.ensures)

pub returns-then-fades_aloud : goal.returns-then-fades_aloud
returns-then-fades_aloud c =
    let s = c.index-as_slice-at.result in
    let h : s ≡ get_or c.args.list.now c.args.at s = rw c.as_slice.ensures at c.index-as_slice-at.is in
    step_quiets s c.requires.inside h c.last_unit_noop.ensures.nothing c.requires.last c.requires.wanted (sym c.if-fades_aloud.ensures)

pub returns : goal.returns
returns c =
    let s = c.index-as_slice-at.result in
    let h : s ≡ get_or c.args.list.now c.args.at s = rw c.as_slice.ensures at c.index-as_slice-at.is in
    rw c.unit_fades.ensures (step_last s c.is_heard_quiet.result c.is_heard_quiet.ensures.quiet c.is_heard_quiet.ensures.heard c.requires.inside h (there is_control_flow_break _ c.args.list.now c.args.at s h c.requires.stays) c.requires.last c.requires.wanted)
