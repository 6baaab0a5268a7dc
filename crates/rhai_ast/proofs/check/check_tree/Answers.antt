use Rattle.std.proofs.Common.{refl, sym, ap, subst}
use Rattle.theory_meaning.specs.Faults.{functions_fault, ◌then◌}
use Rattle.theory_meaning.proofs.FaultLaws.{well_formed_law}
use Rattle.rhai_ast.specs.Refusals.{Finds, meant}
use Rattle.rhai_ast.specs.Scripts.{functions_of, script_by}
use Rattle.rhai_ast.specs.StandingFaults.{StandsInFunctions, StandsInScript, defs_of, fault_in, in_functions, in_statements}
use Rattle.rhai_ast.proofs.Standing.{leaves_with, on_each, passes, stands_each}
use Rattle.rhai_ast.proofs.check.check_tree.Goals as goal

pub returns-in_err-check_stmts-clause-first : goal.returns-in_err-check_stmts-clause-first
returns-in_err-check_stmts-clause-first c =
    leaves_with c.from_residual.result c.in_err-check_stmts.field-0.0 _ _ (functions_fault (functions_of c.args.functions.now)) c.from_residual.ensures.1 refl c.in_err-check_stmts.ensures.first

pub returns-in_err-check_stmts-clause-stands : goal.returns-in_err-check_stmts-clause-stands
returns-in_err-check_stmts-clause-stands c =
    let e = c.in_err-check_stmts.field-0.0 in
    passes (StandsInScript c.args.statements.now (defs_of c.args.functions.now)) c.from_residual.result e c.from_residual.ensures.1
    (on_each (meant e.fault) _ _ (λ f k. in_statements k) c.in_err-check_stmts.ensures.stands)

pub returns-in_err-check_stmts-clause-law : goal.returns-in_err-check_stmts-clause-law
returns-in_err-check_stmts-clause-law c = well_formed_law (script_by c.args.statements.now c.args.functions.now)

pub returns-clause-first : goal.returns-clause-first
returns-clause-first c =
    subst (λ o. Finds o (fault_in c.check_functions.result)) (ap (λ o. o then functions_fault (functions_of c.args.functions.now)) (sym c.in_ok-check_stmts.ensures.first)) c.check_functions.ensures.first

pub returns-clause-stands : goal.returns-clause-stands
returns-clause-stands c =
    stands_each c.check_functions.result (StandsInFunctions (defs_of c.args.functions.now)) (StandsInScript c.args.statements.now (defs_of c.args.functions.now))
    (λ f p k. in_functions c.in_ok-check_stmts.ensures.first k) c.check_functions.ensures.stands

pub returns-clause-law : goal.returns-clause-law
returns-clause-law c = well_formed_law (script_by c.args.statements.now c.args.functions.now)
