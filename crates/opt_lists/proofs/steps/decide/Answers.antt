use Rattle.std.proofs.Common.{◌≡◌, Bool, true, false, None, get_or, sym, ap, ◌∙◌}
use Rattle.std.specs.Prelude.{◌&&◌}
use Rattle.ast_types.specs.declared.stmt.Stmt as declared_stmt
use Rattle.ast_types.specs.Reading.{stmt_of}
use Rattle.theory_rewriting.specs.Context.{wanted}
use Rattle.opt_lists.specs.Marks.{mark_of}
use Rattle.opt_lists.specs.Sweep.{goes_as, goes_by}
use Rattle.opt_lists.proofs.Deciding.{goes_so, item-same, step_stays}
use Rattle.opt_lists.proofs.steps.decide.Goals as goal
use Rattle.opt_lists.proofs.steps.decide.Goals.{else-behind-via-then-behind+else-is_wanted, else-behind-via-else-behind}

pub go-requires-clause-goes : goal.go-requires-clause-goes
go-requires-clause-goes c = λ d.
    let s = c.index-as_slice-at.result in
    let h : s ≡ get_or c.args.list.now c.args.at s = rw c.as_slice.ensures at c.index-as_slice-at.is in
    ap (λ (z : declared_stmt.Stmt). goes_as c.in-Some.going (mark_of c.args.mark) c.args.behind.is_quiet (stmt_of z)) (item-same c.args.list.now c.args.at s d c.requires h)
    ∙ goes_so c.in-Some.going (mark_of c.args.mark) c.args.behind.is_quiet (stmt_of s) (sym c.goes_by.ensures ∙ c.in-Some.is)

pub returns-in-Some-fading : goal.returns-in-Some-fading
returns-in-Some-fading c =
    let s = c.index-as_slice-at.result in
    let h : s ≡ get_or c.args.list.now c.args.at s = rw c.as_slice.ensures at c.index-as_slice-at.is in
    let none : goes_by (mark_of c.args.mark) c.args.behind.is_quiet (stmt_of s) ≡ None = sym c.goes_by.ensures ∙ c.in_default.is in
    c.stay_before_fading.ensures c.args.mark (λ d. ap (λ (z : declared_stmt.Stmt). goes_by (mark_of c.args.mark) c.args.behind.is_quiet (stmt_of z)) (item-same c.args.list.now c.args.at s d c.requires h) ∙ none)

unwanted : (l w : Bool) → l ≡ true → w ≡ false → l && w ≡ false
unwanted l w p q = λ i. p i && q i

pub returns : goal.returns
returns c =
    let s = c.index-as_slice-at.result in
    let h : s ≡ get_or c.args.list.now c.args.at s = rw c.as_slice.ensures at c.index-as_slice-at.is in
    let last = c.args.behind.is_last in
    let w : last && wanted (mark_of c.args.mark) ≡ false = elim c.else-behind.branch [
      | else-behind-via-then-behind+else-is_wanted w ↦ unwanted last _ w.if-behind.true (sym w.is_wanted.ensures ∙ w.if-is_wanted.false)
      | else-behind-via-else-behind w ↦ ap (λ b. b && wanted (mark_of c.args.mark)) w.if-behind.false
    ] in
    rw c.kept_before.ensures (step_stays s c.requires h (sym c.if-is_control_flow_break.ensures) (sym c.goes_by.ensures ∙ c.in_default.is) w c.in_default-fading.is)
