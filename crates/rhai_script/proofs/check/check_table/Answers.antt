use Rattle.std.proofs.Common.{◌≡◌, [], ◌∷◌, List, None, map, sym, ap, subst, ◌∙◌, arith}
use Rattle.std.proofs.lemmas.Grind.{common_steps}
use Rattle.std.specs.declared.alloc.Global.{Global}
use Rattle.std.specs.declared.rc.Rc.{Rc}
use Rattle.ast_types.specs.declared.script_fn.ScriptFuncDef.{ScriptFuncDef}
use Rattle.rhai_ast.proofs.Standing.{leaves_with, on_each, passes}
use Rattle.rhai_ast.specs.Refusals.{IsTheFirst, meant}
use Rattle.rhai_ast.specs.Scripts as parts
use Rattle.rhai_ast.specs.StandingFaults.{OnFault, StandsInFunctions, defs_of, in_others}
use Rattle.theory_meaning.specs.Faults.{functions_fault, ◌then◌}
use Rattle.ast_types.specs.Reading.{function_of}
use Rattle.rhai_script.proofs.Tests.{first_of, stands_alone}
use Rattle.rhai_script.proofs.check.check_table.Goals as goal

pub returns-in_err-check_functions-clause-first : goal.returns-in_err-check_functions-clause-first
returns-in_err-check_functions-clause-first c =
    let e = c.in_err-check_functions.field-0.0 in
    let d = c.in-Some.function.now.value in
    let ds = c.next.new.self in
    let left : c.loop-function.function-iterator ≡ d ∷ ds = grind (arith, common_steps) in
    leaves_with c.from_residual.result e (functions_fault (map function_of c.args.lib.now.functions)) (functions_fault (function_of d ∷ [])) (functions_fault (map function_of ds)) c.from_residual.ensures.1
    (c.loop-function.invariant.so_far ∙ ap (λ fs. functions_fault (map function_of fs)) left ∙ first_of d ds)
    (subst (λ (fs : List (Rc ScriptFuncDef Global)). IsTheFirst (functions_fault (parts.functions_of fs)) (meant e.fault)) c.from_ref.ensures.value c.in_err-check_functions.ensures.first)

pub returns-in_err-check_functions-clause-stands : goal.returns-in_err-check_functions-clause-stands
returns-in_err-check_functions-clause-stands c =
    let e = c.in_err-check_functions.field-0.0 in
    let d = c.in-Some.function.now.value in
    let ds = c.next.new.self in
    let left : c.loop-function.function-iterator ≡ d ∷ ds = grind (arith, common_steps) in
    passes (StandsInFunctions c.args.lib.now.functions) c.from_residual.result e c.from_residual.ensures.1
    (on_each (meant e.fault) (λ f. StandsInFunctions (d ∷ []) f e.position) _
    (λ f k. c.loop-function.invariant.stands f e.position (subst (λ fs. StandsInFunctions fs f e.position) (sym left) (stands_alone ds k)))
    (subst (λ (fs : List (Rc ScriptFuncDef Global)). OnFault (meant e.fault) (λ f. StandsInFunctions (defs_of fs) f e.position)) c.from_ref.ensures.value c.in_err-check_functions.ensures.stands))

pub loop-function-preserved : goal.loop-function-preserved
loop-function-preserved c =
    let d = c.in-Some.function.now.value in
    let ds = c.next.new.self in
    let left : c.loop-function.function-iterator ≡ d ∷ ds = grind (arith, common_steps) in
    let none : functions_fault (function_of d ∷ []) ≡ None = ap (λ (fs : List (Rc ScriptFuncDef Global)). functions_fault (parts.functions_of fs)) (sym c.from_ref.ensures.value) ∙ c.in_ok-check_functions.ensures.first in
    record {
      so_far = c.loop-function.invariant.so_far ∙ ap (λ fs. functions_fault (map function_of fs)) left ∙ first_of d ds ∙ ap (λ o. o then functions_fault (map function_of ds)) none;
      stands = λ f p k. c.loop-function.invariant.stands f p (subst (λ fs. StandsInFunctions fs f p) (sym left) (in_others d ds none k));
    }
