-- Scripts run as they do without what depends on how they are spelled.
use Rattle.std.proofs.Common.{◌≡◌, ℕ, zero, suc, Bool, true, false, cond, List, [], ◌∷◌, map, Option, Some, None, refl, sym, ap, ◌∙◌, subst}
use Rattle.theory_meaning.specs.Act.{ScopeEntry, HostCall, Key, World, Env, ScriptCall, Gives, Ended, At, with_turn, run_all, Store}
use Rattle.theory_meaning.specs.Calls.{same_key}
use Rattle.theory_meaning.specs.Core as core
use Rattle.theory_meaning.specs.Desugar.{core_function, core_script, core_stmts}
use Rattle.theory_meaning.specs.Relations.{OnlyAdds}
use Rattle.theory_meaning.specs.Run.{key_of, function_of, entered, body_acts, call_body, invoke_at, env_at, EntryPoint, AtStatements, AtFunction, run_at, run_script, started}
use Rattle.theory_meaning.specs.Meaning.{acts}
use Rattle.theory_meaning.specs.Tree.{Function, Script, Block, Stmts, no_stmts, stmt}
use Rattle.theory_meaning.proofs.Depths.{adds_at}
use Rattle.theory_naming.specs.Alike.{AreApart, RunBut}
use Rattle.theory_naming.specs.Naming.{ResultLike}
use Rattle.theory_naming.specs.Renaming.{Stands}
use Rattle.theory_naming.proofs.Scripts.{same_by_key_runs, same_but_names}
use Rattle.theory_spelling.specs.Bare.{bare_stmts, is_one_empty, bare_function, bare_script, SpelledAlike, SpelledBut, SpelledButNames}
use Rattle.theory_spelling.specs.Runs.{RunAlike, DoTheSame, alike, alike_but_names}
use Rattle.theory_spelling.proofs.Acts.{SameAll, all_refl, all_trans, all_finish}
use Rattle.theory_spelling.proofs.Captures.{restore_self}
use Rattle.theory_spelling.proofs.Trees.{list_alike}
use Rattle.rhai_base.specs.Value.{Text, UnitV}

body_alike : (w : World) (env : Env) → OnlyAdds env → (ss : Stmts) → SameAll w env (body_acts w (core_stmts false (bare_stmts ss))) (body_acts w (core_stmts false ss))
body_alike w env adds ss = all_finish (list_alike w env adds false true ss UnitV)

-- ---- functions

emptied_by : (w : World) (env : Env) (b : Bool) (ss : Stmts) → is_one_empty ss ≡ b → SameAll w env (acts w true (core_stmts false (cond b no_stmts ss)) UnitV) (acts w true (core_stmts false ss) UnitV)
emptied_by w env false ss h = all_refl
emptied_by w env true (stmt (Block no_stmts) no_stmts) h = record { at = λ s t. ap (λ es. At (Ended (Gives UnitV)) (record s { scope = es }) t) (sym (restore_self s.scope)) }
emptied_by w env true (stmt s no_stmts) h = absurd (cc)
emptied_by w env true (stmt s (stmt t ss)) h = absurd (cc)
emptied_by w env true no_stmts h = absurd (cc)

function_alike : (w : World) (env : Env) → OnlyAdds env → (f : Function) → SameAll w env (body_acts w (core_function (bare_function f)).body) (body_acts w (core_function f).body)
function_alike w env adds f = all_trans (all_finish (emptied_by w env (is_one_empty (bare_stmts f.body)) (bare_stmts f.body) refl)) (body_alike w env adds f.body)

abbrev old : List Function → List core.Function
old fs = map core_function fs

abbrev new : List Function → List core.Function
new fs = map core_function (map bare_function fs)

keys_alike : (fs : List Function) → map key_of (new fs) ≡ map key_of (old fs)
keys_alike [] = refl
keys_alike (f ∷ fs) = ap (λ ks. key_of (core_function f) ∷ ks) (keys_alike fs)

-- the function of a key, in both tables
data Found : Option core.Function → Option core.Function → Type 0 where
  not_found : Found None None
  found : (f : Function) → Found (Some (core_function (bare_function f))) (Some (core_function f))

found_or : (b : Bool) (f : Function) (o o' : Option core.Function) → Found o o' → Found (cond b (Some (core_function (bare_function f))) o) (cond b (Some (core_function f)) o')
found_or true f o o' h = found f
found_or false f o o' h = h

find : (fs : List Function) (k : Key) → Found (function_of (new fs) k) (function_of (old fs) k)
find [] k = not_found
find (f ∷ fs) k = found_or (same_key (key_of (core_function f)) k) f _ _ (find fs k)

module _ (w : World) (fs : List Function) where
  call_alike : (env : Env) → OnlyAdds env → {o o' : Option core.Function} → Found o o' → (a : ScriptCall) (s : Store) (t : ℕ) → call_body true w env o a s t ≡ call_body true w env o' a s t
  call_alike env adds not_found a s t = refl
  call_alike env adds (found f) a s t = λ i. with_turn t (entered true (core_function f) a s) (λ st t1. (function_alike w env adds f).at st t1 i)

  -- calls at each depth
  env_path : (d : ℕ) → ((a : ScriptCall) (s : Store) (t : ℕ) → invoke_at true w (new fs) d a s t ≡ invoke_at true w (old fs) d a s t) → env_at true w (new fs) d ≡ env_at true w (old fs) d
  env_path d h = λ i. record { rounds = d; invoke = λ a s t. h a s t i }

  invoke_alike : (d : ℕ) (a : ScriptCall) (s : Store) (t : ℕ) → invoke_at true w (new fs) d a s t ≡ invoke_at true w (old fs) d a s t
  invoke_alike zero a s t = refl
  invoke_alike (suc d) a s t =
      ap (λ env. call_body true w env (function_of (new fs) a.function) a s t) (env_path d (invoke_alike d))
      ∙ call_alike (env_at true w (old fs) d) (adds_at true w (old fs) d) (find fs a.function) a s t

  env_alike : (d : ℕ) → env_at true w (new fs) d ≡ env_at true w (old fs) d
  env_alike d = env_path d (invoke_alike d)

-- ---- runs

at_alike : (w : World) (p : Script) (e : EntryPoint) (scope : List ScopeEntry) (n : ℕ) → run_at true w (core_script (bare_script p)) e scope n ≡ run_at true w (core_script p) e scope n
at_alike w p AtStatements scope n =
    ap (λ env. run_all w env (body_acts w (core_stmts false (bare_stmts p.statements))) (started scope) n) (env_alike w p.functions n)
    ∙ (body_alike w _ (adds_at true w (old p.functions) n) p.statements).at _ n
at_alike w p (AtFunction k this vs) scope n =
    ap (λ env. call_body true w env (function_of (new p.functions) k) (record { function = k; captures = false; this = this; arguments = vs }) (started []) n) (env_alike w p.functions n)
    ∙ call_alike w p.functions _ (adds_at true w (old p.functions) n) (find p.functions k) _ (started []) n

-- A script without what depends on how it is spelled has the same runs.
pub bare_runs : (p : Script) → RunAlike (bare_script p) p
unfolding run_script
bare_runs p = record {
  runs = λ engine host e scope n.
      ap (λ ks. run_at true (record { engine = engine; host = host; functions = ks }) (core_script (bare_script p)) e scope n) (keys_alike p.functions)
      ∙ at_alike (record { engine = engine; host = host; functions = map key_of (old p.functions) }) p e scope n;
}

-- Scripts that are the same but for how they are spelled have the same runs.
pub spelled_alike_runs : (p q : Script) → SpelledAlike p q → RunAlike p q
spelled_alike_runs p q h = record {
  runs = λ engine host e scope n.
      sym ((bare_runs p).runs engine host e scope n)
      ∙ same_by_key_runs (bare_script p) (bare_script q) h engine host e scope n
      ∙ (bare_runs q).runs engine host e scope n;
}

-- And those that are the same but for names too have runs that are alike.
pub spelled_but_runs : (named : Text → Text) → AreApart named → (p q : Script) → SpelledBut named p q → RunBut named p q
spelled_but_runs named a p q h = record {
  runs = λ engine known host host' hosts e e' entries scope scope' scopes n.
      subst (λ r. ResultLike (Stands named) r (run_script engine host' (core_script q) e' scope' n)) ((bare_runs p).runs engine host e scope n)
      (subst (λ r. ResultLike (Stands named) (run_script engine host (core_script (bare_script p)) e scope n) r) ((bare_runs q).runs engine host' e' scope' n)
      ((same_but_names named a (bare_script p) (bare_script q) h).runs engine known host host' hosts e e' entries scope scope' scopes n));
}

-- So they do the same.
pub spelled_do_the_same : (p q : Script) → SpelledAlike p q → DoTheSame p q
spelled_do_the_same p q h = alike (spelled_alike_runs p q h)

pub renamed_do_the_same : (p q : Script) → SpelledButNames p q → DoTheSame p q
renamed_do_the_same p q h = alike_but_names h.named (spelled_but_runs h.named h.apart p q h.spelled)
