use Rattle.std.proofs.Common.{◌≡◌, false, None, refl, sym, ap, subst, ◌∙◌}
use Rattle.std.specs.declared.alloc.Global.{Global}
use Rattle.std.specs.declared.rc.Rc.{Rc}
use Rattle.rhai_ast.proofs.Standing.{leaves_with, on_each, passes, stands_each}
use Rattle.rhai_ast.specs.Refusals.{Finds, IsTheFirst, meant}
use Rattle.rhai_ast.specs.Scripts.{found_stmts}
use Rattle.rhai_ast.specs.StandingFaults.{OnFault, Stands, StandsAt, StandsInFunctions, StandsInScript, fault_in, in_functions, in_statements}
use Rattle.script_tables.specs.FnLib.{functions_of}
use Rattle.script_tables.specs.declared.fn_lib.FnLib.{FnLib}
use Rattle.theory_meaning.specs.Faults.{functions_fault, ◌then◌}
use Rattle.theory_meaning.specs.Walk.{outermost}
use Rattle.theory_meaning.proofs.FaultLaws.{well_formed_law}
use Rattle.rhai_ast.specs.Standing.{statements_standing}
use Rattle.rhai_script.specs.Script.{script_of}
use Rattle.rhai_script.proofs.ast.AST.check.Goals as goal

pub returns-in_err-check_stmts-clause-first : goal.returns-in_err-check_stmts-clause-first
returns-in_err-check_stmts-clause-first c =
    let e = c.in_err-check_stmts.field-0.0 in
    leaves_with c.from_residual.result e _ (found_stmts c.args.self.now.body.block false) (functions_fault (script_of c.args.self.now).functions) c.from_residual.ensures.1 refl
    (subst (λ ss. IsTheFirst (found_stmts ss false) (meant e.fault)) c.statements.ensures c.in_err-check_stmts.ensures.first)

pub returns-in_err-check_stmts-clause-stands : goal.returns-in_err-check_stmts-clause-stands
returns-in_err-check_stmts-clause-stands c =
    let e = c.in_err-check_stmts.field-0.0 in
    passes (StandsInScript c.args.self.now.body.block c.args.self.now.lib.value.functions) c.from_residual.result e c.from_residual.ensures.1
    (on_each (meant e.fault) _ _ (λ f k. in_statements k)
    (subst (λ ss. OnFault (meant e.fault) (λ f. StandsAt outermost (statements_standing ss) f e.position)) c.statements.ensures c.in_err-check_stmts.ensures.stands))

pub returns-in_err-check_stmts-clause-law : goal.returns-in_err-check_stmts-clause-law
returns-in_err-check_stmts-clause-law c = well_formed_law (script_of c.args.self.now)

pub returns-clause-first : goal.returns-clause-first
returns-clause-first c =
    let none : found_stmts c.args.self.now.body.block false ≡ None = ap (λ ss. found_stmts ss false) (sym c.statements.ensures) ∙ c.in_ok-check_stmts.ensures.first in
    let table : c.deref-2.result.now ≡ c.args.self.now.lib.value = c.deref-2.ensures ∙ ap (λ (l : Rc FnLib Global). l.value) c.shared_lib-lib.ensures in
    subst (λ o. Finds o (fault_in c.check_table.result)) (ap (λ o. o then functions_fault (script_of c.args.self.now).functions) (sym none))
    (subst (λ (l : FnLib). Finds (functions_fault (functions_of l)) (fault_in c.check_table.result)) table c.check_table.ensures.first)

pub returns-clause-stands : goal.returns-clause-stands
returns-clause-stands c =
    let none : found_stmts c.args.self.now.body.block false ≡ None = ap (λ ss. found_stmts ss false) (sym c.statements.ensures) ∙ c.in_ok-check_stmts.ensures.first in
    let table : c.deref-2.result.now ≡ c.args.self.now.lib.value = c.deref-2.ensures ∙ ap (λ (l : Rc FnLib Global). l.value) c.shared_lib-lib.ensures in
    stands_each c.check_table.result (StandsInFunctions c.args.self.now.lib.value.functions) (StandsInScript c.args.self.now.body.block c.args.self.now.lib.value.functions)
    (λ f p k. in_functions none k)
    (subst (λ (l : FnLib). Stands (StandsInFunctions l.functions) c.check_table.result) table c.check_table.ensures.stands)

pub returns-clause-law : goal.returns-clause-law
returns-clause-law c = well_formed_law (script_of c.args.self.now)
