-- A script's functions by their keys.
use Rattle.std.proofs.Common.{◌≡◌, ◌≤◌, Bool, true, false, cond, List, [], ◌∷◌, map, length, Option, Some, None, Result, refl, sym, ap, ◌∙◌, subst, arith, if◌then◌else◌}
use Rattle.rhai_base.specs.declared.dynamic.Dynamic.{Dynamic}
use Rattle.rhai_base.specs.Reading.{value_of}
use Rattle.rhai_base.specs.Value.{Text, Value}
use Rattle.ast_types.specs.declared.script_fn.ScriptFuncDef.{ScriptFuncDef}
use Rattle.ast_types.specs.Reading.{stmts_of}
use Rattle.ast_types.specs.Reading as reading
use Rattle.script_tables.specs.FnKey.{definition_key}
use Rattle.script_tables.specs.Table.{find_by}
use Rattle.script_tables.proofs.Keys.{same_key-true}
use Rattle.theory_meaning.specs.Act.{Key}
use Rattle.theory_meaning.specs.Calls.{call_named, key, same_key}
use Rattle.theory_meaning.specs.Core.{Function}
use Rattle.theory_meaning.specs.Desugar.{core_function}
use Rattle.theory_meaning.specs.Run.{function_of, key_of}
use Rattle.theory_meaning.specs.Weight.{weight}
use Rattle.run_state.specs.declared.state.Interrupt.{Interrupt}
use Rattle.run_state.specs.declared.state.State.{State}
use Rattle.run_state.specs.Evaluating.{bodies_weight, RunsInvoke}
use Rattle.run_state.specs.Runs.{Setting, Acting, Leads, given}
use Rattle.run_evaluator.proofs.Words.{call_invokes}

-- what is run of a function
abbrev pub run_of : ScriptFuncDef → Function
run_of f = core_function (reading.function_of f)

abbrev pub all_run : List ScriptFuncDef → List Function
all_run fs = map core_function (map reading.function_of fs)

turned : (k l : Key) → same_key k l ≡ true → same_key l k ≡ same_key k l
turned k l h = let e = same_key-true k l h in λ i. same_key (sym e i) (e i)

swapped_by : (k l : Key) (c : Bool) → same_key l k ≡ c → same_key k l ≡ false → c ≡ false
swapped_by k l true e h = sym (turned l k e ∙ e) ∙ h
swapped_by k l false e h = refl

swapped : (k l : Key) (b : Bool) → same_key k l ≡ b → same_key l k ≡ b
swapped k l true h = turned k l h ∙ h
swapped k l false h = swapped_by k l (same_key l k) refl h

-- ---- the function of a key

module _ (k : Key) where
  pub found_function : (fs : List ScriptFuncDef) (f : ScriptFuncDef) → Some f ≡ find_by definition_key k fs → function_of (all_run fs) k ≡ Some (run_of f)
  found_function [] f h = cc
  found_function (g ∷ gs) f h = by (same_key k (definition_key g)) refl h (λ e. found_function gs f e) where
    by : (b : Bool) → same_key k (definition_key g) ≡ b → Some f ≡ (if b then Some g else find_by definition_key k gs) → (Some f ≡ find_by definition_key k gs → function_of (all_run gs) k ≡ Some (run_of f)) → cond (same_key (key_of (run_of g)) k) (Some (run_of g)) (function_of (all_run gs) k) ≡ Some (run_of f)
    by true s e rest = let same : g ≡ f = cc in ap (λ c. cond c (Some (run_of g)) (function_of (all_run gs) k)) (swapped k (definition_key g) true s) ∙ ap (λ d. Some (run_of d)) same
    by false s e rest = ap (λ c. cond c (Some (run_of g)) (function_of (all_run gs) k)) (swapped k (definition_key g) false s) ∙ rest e

  pub found_nothing : (fs : List ScriptFuncDef) → None ≡ find_by definition_key k fs → function_of (all_run fs) k ≡ None
  found_nothing [] h = refl
  found_nothing (g ∷ gs) h = by (same_key k (definition_key g)) refl h (λ e. found_nothing gs e) where
    by : (b : Bool) → same_key k (definition_key g) ≡ b → None ≡ (if b then Some g else find_by definition_key k gs) → (None ≡ find_by definition_key k gs → function_of (all_run gs) k ≡ None) → cond (same_key (key_of (run_of g)) k) (Some (run_of g)) (function_of (all_run gs) k) ≡ None
    by true s e rest = absurd (let z : None ≡ Some g = e in cc)
    by false s e rest = ap (λ c. cond c (Some (run_of g)) (function_of (all_run gs) k)) (swapped k (definition_key g) false s) ∙ rest e

  pub found_key : (fs : List ScriptFuncDef) (f : ScriptFuncDef) → Some f ≡ find_by definition_key k fs → definition_key f ≡ k
  found_key [] f h = cc
  found_key (g ∷ gs) f h = by (same_key k (definition_key g)) refl h (λ e. found_key gs f e) where
    by : (b : Bool) → same_key k (definition_key g) ≡ b → Some f ≡ (if b then Some g else find_by definition_key k gs) → (Some f ≡ find_by definition_key k gs → definition_key f ≡ k) → definition_key f ≡ k
    by true s e rest = let same : f ≡ g = cc in ap definition_key same ∙ sym (same_key-true k (definition_key g) s)
    by false s e rest = rest e

  pub found_weight : (fs : List ScriptFuncDef) (f : ScriptFuncDef) → Some f ≡ find_by definition_key k fs → weight (stmts_of f.body.block) ≤ bodies_weight (map reading.function_of fs)
  found_weight [] f h = cc
  found_weight (g ∷ gs) f h = by (same_key k (definition_key g)) h (λ e. found_weight gs f e) where
    by : (b : Bool) → Some f ≡ (if b then Some g else find_by definition_key k gs) → (Some f ≡ find_by definition_key k gs → weight (stmts_of f.body.block) ≤ bodies_weight (map reading.function_of gs)) → weight (stmts_of f.body.block) ≤ bodies_weight (map reading.function_of (g ∷ gs))
    by true e rest = let same : g ≡ f = cc in subst (λ d. weight (stmts_of d.body.block) ≤ bodies_weight (map reading.function_of (g ∷ gs))) same (omega arith)
    by false e rest = omega (arith, rest e)

-- ---- a call of a function that a script has

module _ (here : Setting) (fs : List ScriptFuncDef) (keys : here.world.functions ≡ map key_of here.functions) (bodies : here.functions ≡ all_run fs) (captures : Bool) (f : Text) (vs : List Value) where
  abbrev named : Key
  named = key f (length vs) None

  pub call_runs_function : (d : ScriptFuncDef) (s s1 : State) (r : Result (Dynamic × Option Dynamic) Interrupt) → Some d ≡ find_by definition_key named fs → (function_of here.functions (definition_key d) ≡ Some (run_of d) → RunsInvoke here (record { function = definition_key d; captures = captures; this = None; arguments = vs }) s r s1) → Leads here (Acting (call_named here.world captures f vs)) s r s1 (λ p. given (value_of p.0))
  call_runs_function d s s1 r h q =
      let is_key : definition_key d ≡ named = found_key named fs d h in
      let known : function_of here.functions named ≡ Some (run_of d) = ap (λ gs. function_of gs named) bodies ∙ found_function named fs d h in
      call_invokes here keys captures f vs (run_of d) s s1 r known
      (subst (λ l. RunsInvoke here (record { function = l; captures = captures; this = None; arguments = vs }) s r s1) is_key (q (ap (function_of here.functions) is_key ∙ known)))
