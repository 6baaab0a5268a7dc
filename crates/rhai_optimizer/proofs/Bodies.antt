-- Functions whose bodies are optimised, and their table.
use Rattle.std.proofs.Common.{◌≡◌, ℕ, suc, arith, ◌+◌, ◌-◌, ◌<◌, Bool, true, false, None, List, [], ◌∷◌, ◌++◌, map, length, drop, get_or, add-one, append-nil, if◌then◌else◌, refl, sym, ap, ◌∙◌, subst}
use Rattle.std.specs.Prelude.{◌==◌, ◌≤◌}
use Rattle.std.proofs.Math.Dec.{ltb}
use Rattle.std.proofs.Math.Seq.{drop-cons, drop-length}
use Rattle.std.proofs.lemmas.Bool.{ltb-false}
use Rattle.std.proofs.lemmas.List.{append_assoc, map-append}
use Rattle.std.specs.Rc.{rc_value}
use Rattle.std.specs.declared.alloc.Global.{Global}
use Rattle.std.specs.declared.rc.Rc.{Rc}
use Rattle.rhai_base.specs.Value.{Text}
use Rattle.theory_meaning.specs.Act.{OfName}
use Rattle.theory_meaning.specs.Calls.{key, same_key}
use Rattle.theory_meaning.specs.Engine.{Engine}
use Rattle.ast_types.specs.Reading.{function_of, stmts_of}
use Rattle.theory_rewriting.specs.Context.{Whole, knowing, open_list}
use Rattle.theory_rewriting.specs.Known.{Known, globals_of, shadow_all}
use Rattle.theory_rewriting.specs.Finished.{IsFinished, AreFinished}
use Rattle.theory_rewriting.specs.Rewriting.{RestTo, same_stmts}
use Rattle.theory_rewriting.specs.Scripts.{naming_all, FunctionTo, FunctionsTo, no_functions as none_to, functions as more_to}
use Rattle.theory_rewriting.specs.Steps.{Progress, IsReducedBody}
use Rattle.ast_types.specs.declared.script_fn.ScriptFuncDef.{ScriptFuncDef}
use Rattle.script_tables.specs.FnKey.{definition_key, definitions_table}
use Rattle.script_tables.specs.Table.{put_by, put_all_by}
use Rattle.rhai_optimizer.specs.Functions.{Header, header_of, FunctionRun, FunctionsRun, no_functions, one_more, BodyRun}
use Rattle.rhai_optimizer.specs.Optimised.{AreReducedBodies}
use Rattle.rhai_optimizer.specs.Passes.{PassesRun}
use Rattle.rhai_optimizer.proofs.Passing.{counts_to}

-- ---- names

shadow_front : (xs : List Text) (front ks : List Known) → globals_of front ≡ [] → (f : List Known) × (shadow_all xs (front ++ ks) ≡ f ++ ks) × (globals_of f ≡ [])
shadow_front [] front ks h = (front, refl, h)
shadow_front (x ∷ xs) front ks h = shadow_front xs (record { root = OfName x; value = None } ∷ front) ks h

-- the parameters stand in front
pub shadowed : (xs : List Text) (ks : List Known) → (f : List Known) × (shadow_all xs ks ≡ f ++ ks) × (globals_of f ≡ [])
shadowed xs ks = shadow_front xs [] ks refl

-- the parameters of a loop over them
pub params-drop : (xs : List Text) (i : ℕ) (d : Text) (ks : List Known) → i < length xs → shadow_all (drop i xs) ks ≡ shadow_all (drop (i + 1) xs) (record { root = OfName (get_or xs i d); value = None } ∷ ks)
params-drop xs i d ks h = rw (add-one, drop-cons xs i d) refl

pub params-end : (xs : List Text) (ks : List Known) → shadow_all (drop (length xs) xs) ks ≡ ks
params-end xs ks = ap (λ ys. shadow_all ys ks) (drop-length xs)

pub ruleset params = (params-drop, params-end)

-- ---- one body

module _ {r : Engine} (ks : List Known) (f f' : ScriptFuncDef) (same : header_of f' ≡ header_of f) where
  body_to : {n : ℕ} {s s' : Progress} → s.known ≡ shadow_all f.params ks → PassesRun r n s s' (stmts_of f.body.block) (stmts_of f'.body.block) → FunctionTo (knowing r ks) (function_of f) (function_of f')
  body_to e run = record {
    name = ap (λ (h : Header). h.name) same;
    this_type = ap (λ (h : Header). h.this_type) same;
    params = ap (λ (h : Header). h.params) same;
    body = subst (λ ls. RestTo (open_list (knowing r ls)) Whole true true true (stmts_of f.body.block) (stmts_of f'.body.block)) e (counts_to run.counts);
  }

  body_finished : {n : ℕ} {s s' : Progress} → s.known ≡ shadow_all f.params ks → PassesRun r n s s' (stmts_of f.body.block) (stmts_of f'.body.block) → IsFinished (naming_all f.params (knowing r ks)) (stmts_of f'.body.block)
  body_finished e run = subst (λ ls. IsFinished (knowing r ls) (stmts_of f'.body.block)) e run.finished

  body_kept : (n : ℕ) {s s' : Progress} → s.known ≡ shadow_all f.params ks → PassesRun r n s s' (stmts_of f.body.block) (stmts_of f'.body.block) → n ≤ 1 → FunctionRun r ks f f
  body_kept n e run h = let z = run.kept h in record {
    header = refl;
    to = record { name = refl; this_type = refl; params = refl; body = same_stmts };
    reduced = subst (λ ss. IsReducedBody r ss) z run.reduced;
    finished = subst (λ ss. IsFinished (naming_all f.params (knowing r ks)) ss) z (body_finished e run);
  }

  pub body_run : (n : ℕ) {s s' : Progress} → s.known ≡ shadow_all f.params ks → PassesRun r n s s' (stmts_of f.body.block) (stmts_of f'.body.block) → BodyRun r ks (ltb 1 n) f f'
  body_run n e run = record {
    run = record { header = same; to = body_to e run; reduced = run.reduced; finished = body_finished e run };
    kept = λ h. body_kept n e run (ltb-false 1 n h);
  }

-- ---- a table of them

same_definition : {r : Engine} {ks : List Known} {f f' : ScriptFuncDef} → FunctionRun r ks f f' → definition_key f' ≡ definition_key f
same_definition p = ap (λ (h : Header). key h.name (length h.params) h.this_type) p.header

module _ {r : Engine} {ks : List Known} where
  put_run : {f f' : ScriptFuncDef} {gs gs' : List ScriptFuncDef} → FunctionRun r ks f f' → FunctionsRun r ks gs gs' → FunctionsRun r ks (put_by definition_key gs f) (put_by definition_key gs' f')
  put_run p no_functions = one_more p no_functions
  put_run {f = f} {f' = f'} p (one_more {f = g} {f' = g'} {fs = gs} {fs' = gs'} q qs) =
      subst (λ b. FunctionsRun r ks (if same_key (definition_key f) (definition_key g) then f ∷ gs else g ∷ put_by definition_key gs f) (if b then f' ∷ gs' else g' ∷ put_by definition_key gs' f'))
      (sym (ap (λ x. same_key x (definition_key g')) (same_definition p) ∙ ap (same_key (definition_key f)) (same_definition q)))
      (by (put_run p qs) (same_key (definition_key f) (definition_key g))) where
        by : FunctionsRun r ks (put_by definition_key gs f) (put_by definition_key gs' f') → (b : Bool) → FunctionsRun r ks (if b then f ∷ gs else g ∷ put_by definition_key gs f) (if b then f' ∷ gs' else g' ∷ put_by definition_key gs' f')
        by rest true = one_more p qs
        by rest false = one_more q rest

  put_all_run : {fs fs' gs gs' : List ScriptFuncDef} → FunctionsRun r ks gs gs' → FunctionsRun r ks fs fs' → FunctionsRun r ks (put_all_by definition_key gs fs) (put_all_by definition_key gs' fs')
  put_all_run table no_functions = table
  put_all_run table (one_more p ps) = put_all_run (put_run p table) ps

  pub table_run : {fs fs' : List ScriptFuncDef} → FunctionsRun r ks fs fs' → FunctionsRun r ks (definitions_table fs) (definitions_table fs')
  table_run p = put_all_run no_functions p

  pub functions_to : {fs fs' : List ScriptFuncDef} → FunctionsRun r ks fs fs' → FunctionsTo (knowing r ks) (map function_of fs) (map function_of fs')
  functions_to no_functions = none_to
  functions_to (one_more p ps) = more_to p.to (functions_to ps)

  pub same_headers : {fs fs' : List ScriptFuncDef} → FunctionsRun r ks fs fs' → map header_of fs' ≡ map header_of fs
  same_headers no_functions = refl
  same_headers (one_more p ps) = λ i. p.header i ∷ same_headers ps i

  pub bodies_finished : {fs fs' : List ScriptFuncDef} → FunctionsRun r ks fs fs' → AreFinished (knowing r ks) (map function_of fs')
  bodies_finished no_functions = tt
  bodies_finished (one_more {f' = f'} p ps) = (subst (λ xs. IsFinished (naming_all xs (knowing r ks)) (stmts_of f'.body.block)) (sym (ap (λ (h : Header). h.params) p.header)) p.finished, bodies_finished ps)

  pub bodies_reduced : {fs fs' : List ScriptFuncDef} → FunctionsRun r ks fs fs' → AreReducedBodies r (map function_of fs')
  bodies_reduced no_functions = tt
  bodies_reduced (one_more p ps) = (p.reduced, bodies_reduced ps)

-- of none
pub none_run : {r : Engine} {ks : List Known} (fs : List (Rc ScriptFuncDef Global)) → (length fs == 0) ≡ true → FunctionsRun r ks (map rc_value fs) (map rc_value fs)
none_run [] h = no_functions
none_run (f ∷ fs) h = absurd (let e : (suc (length fs) == 0) ≡ false = grind arith in let z : true ≡ false = sym h ∙ e in cc)

-- what is reduced and finished may stay
stays : {r : Engine} {ks : List Known} {f f' : ScriptFuncDef} → FunctionRun r ks f f' → FunctionRun r ks f' f'
stays {r = r} {ks = ks} {f' = f'} p = record {
  header = refl;
  to = record { name = refl; this_type = refl; params = refl; body = same_stmts };
  reduced = p.reduced;
  finished = subst (λ xs. IsFinished (naming_all xs (knowing r ks)) (stmts_of f'.body.block)) (sym (ap (λ (h : Header). h.params) p.header)) p.finished;
}

pub all_stay : {r : Engine} {ks : List Known} {fs fs' : List ScriptFuncDef} → FunctionsRun r ks fs fs' → FunctionsRun r ks fs' fs'
all_stay no_functions = no_functions
all_stay (one_more p ps) = one_more (stays p) (all_stay ps)

-- the keys stay
pub same_keys : {r : Engine} {ks : List Known} {fs fs' : List ScriptFuncDef} → FunctionsRun r ks fs fs' → map definition_key fs' ≡ map definition_key fs
same_keys no_functions = refl
same_keys (one_more {fs = fs} {fs' = fs'} p ps) = λ i. same_definition p i ∷ same_keys ps i

-- ---- one after another

-- with what becomes of the rest behind those that are done it is what becomes of all
abbrev pub Done : Engine → List Known → (all rest done : List ScriptFuncDef) → Type 0
Done r ks all rest done = (gs : List ScriptFuncDef) → FunctionsRun r ks rest gs → FunctionsRun r ks all (done ++ gs)

pub next_done : {r : Engine} {ks : List Known} (all rest done : List ScriptFuncDef) (f f' : ScriptFuncDef) → FunctionRun r ks f f' → Done r ks all (f ∷ rest) done → Done r ks all rest (done ++ f' ∷ [])
next_done {r = r} {ks = ks} all rest done f f' p d = λ gs q. subst (λ hs. FunctionsRun r ks all hs) (sym (append_assoc done (f' ∷ []) gs)) (d (f' ∷ gs) (one_more p q))

pub all_done : {r : Engine} {ks : List Known} (all done : List ScriptFuncDef) → Done r ks all [] done → FunctionsRun r ks all done
all_done {r = r} {ks = ks} all done d = subst (λ hs. FunctionsRun r ks all hs) (append-nil done) (d [] no_functions)

-- a loop over shared functions
pub next_function : {r : Engine} {ks ls : List Known} (all : List ScriptFuncDef) (rest rest' made made' : List (Rc ScriptFuncDef Global)) (f f' : Rc ScriptFuncDef Global)
    → ls ≡ ks → rest ≡ f ∷ rest' → made' ≡ made ++ f' ∷ [] → FunctionRun r ls f.value f'.value → Done r ks all (map rc_value rest) (map rc_value made) → Done r ks all (map rc_value rest') (map rc_value made')
next_function {r = r} {ks = ks} all rest rest' made made' f f' k e h run d =
    subst (λ l. Done r ks all (map rc_value rest') l) (sym (ap (map rc_value) h ∙ map-append rc_value made (f' ∷ [])))
    (next_done all (map rc_value rest') (map rc_value made) f.value f'.value (subst (λ ls. FunctionRun r ls f.value f'.value) k run) (subst (λ l. Done r ks all l (map rc_value made)) (ap (map rc_value) e) d))

pub no_more_functions : {r : Engine} {ks : List Known} (all : List ScriptFuncDef) (rest made : List (Rc ScriptFuncDef Global)) → rest ≡ [] → Done r ks all (map rc_value rest) (map rc_value made) → FunctionsRun r ks all (map rc_value made)
no_more_functions {r = r} {ks = ks} all rest made e d = all_done all (map rc_value made) (subst (λ l. Done r ks all (map rc_value l) (map rc_value made)) e d)
