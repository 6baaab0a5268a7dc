use Rattle.std.proofs.Common.{ap, subst, ◌∙◌}
use Rattle.theory_meaning.specs.Faults.{finding}
use Rattle.theory_meaning.specs.Walk.{over_stmts}
use Rattle.ast_types.specs.Reading.{stmts_of}
use Rattle.rhai_ast.specs.Children.{over_children}
use Rattle.rhai_ast.specs.Standing.{statements_standing}
use Rattle.rhai_ast.specs.Places.{around_of}
use Rattle.rhai_ast.specs.Refusals.{Finds}
use Rattle.rhai_ast.specs.StandingFaults.{Stands, StandsAt, fault_in}
use Rattle.rhai_ast.proofs.BelowFaults.{found-statements}
use Rattle.rhai_ast.proofs.faults.check.check_stmts.Goals as goal

pub returns-clause-first : goal.returns-clause-first
returns-clause-first c =
    let around = around_of c.whole.result in
    subst (λ o. Finds o (fault_in c.check_children.result))
    (ap (λ cs. over_children finding cs around) c.of_statements.ensures.children ∙ found-statements c.args.statements.now around ∙ ap (over_stmts finding (stmts_of c.args.statements.now)) c.whole.ensures)
    c.check_children.ensures.first

pub returns-clause-stands : goal.returns-clause-stands
returns-clause-stands c =
    subst (λ a. Stands (StandsAt a (statements_standing c.args.statements.now)) c.check_children.result) c.whole.ensures
    (subst (λ ss. Stands (StandsAt (around_of c.whole.result) ss) c.check_children.result) c.of_statements.ensures.standing c.check_children.ensures.stands)
