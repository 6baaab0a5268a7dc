use Rattle.std.proofs.Common.{sym, ap, subst}
use Rattle.opt_base.specs.State.{progress}
use Rattle.ast_types.specs.Reading.{stmt_of}
use Rattle.theory_rewriting.specs.Rules.{StmtRule}
use Rattle.theory_rewriting.specs.Steps.{here}
use Rattle.theory_rewriting.proofs.Firing.{stmt_fired_by}
use Rattle.opt_switch.proofs.decide.decide_switch.Goals as goal

pub returns : goal.returns
returns c = λ r w.
    let k = here r (progress c.args.state.now) in
    let rule = rw c.in-Some.is at c.in_ok-made.ensures in
    stmt_fired_by c.note_fired.ensures.dirty c.note_fired.ensures.known
    (subst (λ y. StmtRule k w (stmt_of c.args.statement.now) y) (sym (ap stmt_of c.put_stmt.ensures)) (rule k w))
