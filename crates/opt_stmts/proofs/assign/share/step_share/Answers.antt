use Rattle.std.proofs.Common.{◌≡◌, rules, true, false, ◌&&◌, not, refl, sym, ap, ◌∙◌}
use Rattle.ast_types.specs.Reading.{shapes, shared_names, stmt_of, stmt_of-Share}
use Rattle.ast_types.proofs.Cases.{stmt_cases}
use Rattle.theory_meaning.specs.Tree.{Share}
use Rattle.opt_base.specs.State.{progress}
use Rattle.opt_stmts.specs.Firing.{answer}
use Rattle.opt_stmts.specs.SettledAssignments.{shares_nothing, is_settled_share}
use Rattle.opt_stmts.proofs.FiredStatements.{fires_as}
use Rattle.opt_stmts.proofs.Names.{nothing-of, stays_shared}
use Rattle.opt_stmts.proofs.OtherAssignments.{no_share}
use Rattle.opt_stmts.proofs.Settled.{share_kept}
use Rattle.opt_stmts.proofs.assign.share.step_share.Goals as goal

pub returns-then-is_empty-clause-step : goal.returns-then-is_empty-clause-step
returns-then-is_empty-clause-step c = λ r w. fires_as (ap stmt_of c.in-Share.is ∙ stmt_of-Share _ ∙ sym (search (rules, shapes))) refl (c.share_nothing.ensures r w)

pub returns-then-not-knows_some-clause-answer : goal.returns-then-not-knows_some-clause-answer
returns-then-not-knows_some-clause-answer c =
    let ks = (progress c.args.state.now).known in
    let x = ap stmt_of c.in-Share.is ∙ stmt_of-Share _ in
    stays_shared ks (shared_names c.in-Share.names) (nothing-of c.in-Share.names _ (rw (c.get.ensures ∙ c.in-Share.names-is) at c.if-is_empty.ensures)) (rw (c.as_slice.ensures, c.get-in-Share.ensures ∙ c.in-Share.names-is) at c.if-not-knows_some.ensures)
    ∙ ap (λ s. answer (not (shares_nothing s) && is_settled_share ks s)) (sym x)

pub returns-then-not-knows_some-clause-step : goal.returns-then-not-knows_some-clause-step
returns-then-not-knows_some-clause-step c =
    let x = ap stmt_of c.in-Share.is ∙ stmt_of-Share _ in
    λ r w. share_kept (shared_names c.in-Share.names) x (search (rules, shapes) ∙ sym x) (sym (nothing-of c.in-Share.names _ (rw (c.get.ensures ∙ c.in-Share.names-is) at c.if-is_empty.ensures))) (sym (rw (c.as_slice.ensures, c.get-in-Share.ensures ∙ c.in-Share.names-is) at c.if-not-knows_some.ensures))

pub returns-else-not-knows_some-clause-step : goal.returns-else-not-knows_some-clause-step
returns-else-not-knows_some-clause-step c =
    λ r w. fires_as (ap stmt_of c.in-Share.is ∙ stmt_of-Share _ ∙ ap (λ xs. Share (shared_names xs)) (sym c.in-Share.names-is)) (search (rules, shapes)) (c.share_known.ensures r w)

pub returns-in_default : goal.returns-in_default
returns-in_default c = absurd (let z : false ≡ true = no_share (stmt_cases c.args.statement.now) c.in_default.not-Share ∙ c.requires in cc)
