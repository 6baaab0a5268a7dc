-- The theorem over whole scripts: one whose statements and functions were rewritten does what it did.
use Rattle.std.proofs.Common.{◌≡◌, Bool, true, false, cond, List, [], ◌∷◌, ◌++◌, length, map, refl, sym, subst}
use Rattle.rhai_base.specs.Value.{UnitV}
use Rattle.theory_meaning.specs.Act.{World, ScopeEntry}
use Rattle.theory_meaning.specs.Calls.{key}
use Rattle.theory_meaning.specs.Core as core
use Rattle.theory_meaning.specs.Desugar.{core_function, core_script, core_stmts}
use Rattle.theory_meaning.specs.Engine.{Engine}
use Rattle.theory_meaning.specs.Plain.{all_true}
use Rattle.theory_meaning.specs.Run.{key_of, world_of, body_acts, EntryPoint, run_at, run_script}
use Rattle.theory_meaning.specs.Tree.{Function, Stmts, Script}
use Rattle.theory_meaning.specs.Walk.{over_stmts, over_functions}
use Rattle.theory_meaning.proofs.PureTrees.{split}
use Rattle.theory_rewriting.specs.Context.{Context}
use Rattle.theory_rewriting.specs.Known.{Known, globals_of, shadow_all, Agrees}
use Rattle.theory_soundness.specs.Refines.{RunRefines, RefinesWhere}
use Rattle.theory_rewriting.specs.Rewriting.{same_stmts}
use Rattle.theory_rewriting.specs.Scripts.{captures_nothing, known_at_top, known_in_bodies, known_globals, known_inside, FunctionTo, FunctionsTo, no_functions, functions, ScriptTo, MayKnow, nothing_known, none_capture, OptimisedTo}
use Rattle.theory_soundness.proofs.soundness.Apart.{AllApart, apart_finish, BodiesApart, same_script}
use Rattle.theory_soundness.proofs.soundness.Capturing.{is_apart, list_apart}
use Rattle.theory_soundness.proofs.soundness.Derivation.{stmts_sound}
use Rattle.theory_soundness.proofs.kept.Kept.{captures_nothing_still}
use Rattle.theory_soundness.proofs.soundness.Scripts.{setting_in, FunctionsTo as FunctionsSimulate, FunctionTo as FunctionSimulates, no_functions as none_simulate, functions as more_simulate, function, KnownInside, inside_nothing, ScriptTo as ScriptSimulates, run_refines}
use Rattle.theory_soundness.proofs.soundness.Start.{agrees_inside, promises_inside}
use Rattle.theory_soundness.proofs.soundness.Globals.{Promises, promises_as, fair_acts, none_at_top}
use Rattle.theory_soundness.proofs.simulation.Agreement.{KnowsNoGlobal}
use Rattle.theory_soundness.proofs.simulation.Declaring.{finish}
use Rattle.theory_rewriting.proofs.Knowing.{same_globals}

-- ---- functions

-- the function with another body
abbrev with_body : core.Function → core.Stmts → core.Function
with_body f ss = record { name = f.name; this_type = f.this_type; params = f.params; body = ss }

body_simulates : (w : World) (inner : List Known) {f f' : Function} → FunctionTo (record { engine = w.engine; known = inner }) f f' → FunctionSimulates w inner (core_function f) (core_function f')
body_simulates w inner {f} {f'} p =
    let e : with_body (core_function f) (core_stmts false f'.body) ≡ core_function f' = λ i. record { name = sym p.name i; this_type = sym p.this_type i; params = sym p.params i; body = core_stmts false f'.body } in
    subst (λ g. FunctionSimulates w inner (core_function f) g) e (function (record { body = λ envs. (stmts_sound p.body (setting_in w (shadow_all f.params inner) envs) UnitV (λ h. refl)).closed }))

bodies_simulate : (w : World) (inner : List Known) {fs fs' : List Function} → FunctionsTo (record { engine = w.engine; known = inner }) fs fs' → FunctionsSimulate w inner (map core_function fs) (map core_function fs')
bodies_simulate w inner no_functions = none_simulate
bodies_simulate w inner (functions p q) = more_simulate (body_simulates w inner p) (bodies_simulate w inner q)

script_simulates : (w : World) (top inner : List Known) {p p' : Script} → ScriptTo w.engine top inner p p' → Promises inner (core_stmts false p.statements) → ScriptSimulates w top inner (core_script p) (core_script p')
script_simulates w top inner {p = p} to h = record {
  statements = record { body = λ envs. (stmts_sound to.statements (setting_in w top envs) UnitV (λ h. refl)).closed };
  fair = finish _ (fair_acts w (globals_of inner) true (core_stmts false p.statements) UnitV (promises_as (globals_of inner) inner (same_globals inner) (core_stmts false p.statements) h));
  functions = bodies_simulate w inner to.functions;
}

-- functions as they were
pub functions_same : (k : Context) (fs : List Function) → FunctionsTo k fs fs
functions_same k [] = no_functions
functions_same k (f ∷ fs) = functions (record { name = refl; this_type = refl; params = refl; body = same_stmts }) (functions_same k fs)

-- keys stay, in order
one_key : {k : Context} {f f' : Function} → FunctionTo k f f' → key_of (core_function f') ≡ key_of (core_function f)
one_key p = λ i. key (p.name i) (length (p.params i)) (p.this_type i)

pub same_keys : {k : Context} {fs fs' : List Function} → FunctionsTo k fs fs' → map key_of (map core_function fs') ≡ map key_of (map core_function fs)
same_keys no_functions = refl
same_keys (functions p q) = λ i. one_key p i ∷ same_keys q i

-- ---- scripts in which no call captures

body_apart : (w : World) (ss : Stmts) → over_stmts (all_true is_apart) ss ≡ true → AllApart (body_acts w (core_stmts false ss))
body_apart w ss h = apart_finish (list_apart w ss h)

bodies_apart : (w : World) (fs : List Function) → over_functions (all_true is_apart) fs ≡ true → BodiesApart w (map core_function fs)
bodies_apart w [] h = tt
bodies_apart w (f ∷ fs) h = let z = split (over_stmts (all_true is_apart) f.body) (over_functions (all_true is_apart) fs) h in (body_apart w f.body z.0, bodies_apart w fs z.1)

-- it makes no difference whether a body may see the scope of a call
lends_nothing : (w : World) (p : Script) → captures_nothing p ≡ true → (e : EntryPoint) (scope : List ScopeEntry) → run_at true w (core_script p) e scope ≡ run_at false w (core_script p) e scope
lends_nothing w p h e scope =
    let z = split (over_stmts (all_true is_apart) p.statements) (over_functions (all_true is_apart) p.functions) h in
    λ i n. same_script w (core_script p) (body_apart w p.statements z.0) (bodies_apart w p.functions z.1) e scope n i

-- ---- what may be known in bodies

inside_alone : (w : World) (ks : List Known) → Agrees w.engine.constants ks [] → KnownInside false w ks
inside_alone w ks a = record { holds = λ captures scope. a }

in_world : (w : World) (top inner : List Known) (p p' : Script) (scope : List ScopeEntry) (e : EntryPoint) → ScriptTo w.engine top inner p p' → MayKnow p inner → Promises inner (core_stmts false p.statements) → Agrees w.engine.constants inner [] → KnowsNoGlobal top → Agrees w.engine.constants top scope → RunRefines (run_at true w (core_script p) e scope) (run_at true w (core_script p') e scope)
in_world w top inner p p' scope e to nothing_known h inside none ag = run_refines true w top [] (core_script p) (core_script p') scope (inside_nothing w) (script_simulates w top [] to h) none ag e
in_world w top inner p p' scope e to (none_capture h) promise inside none ag =
    let c = run_refines false w top inner (core_script p) (core_script p') scope (inside_alone w inner inside) (script_simulates w top inner to promise) none ag e in
    subst (λ r. RunRefines r (run_at true w (core_script p') e scope)) (sym (lends_nothing w p h e scope))
    (subst (λ r. RunRefines (run_at false w (core_script p) e scope) r) (sym (lends_nothing w p' (captures_nothing_still to h) e scope)) c)

-- ---- the theorem

-- For every host, start scope that agrees with what was known, entry and number of turns the new script refines the old one.
pub script_refines : {engine : Engine} {top inner : List Known} {p p' : Script} → ScriptTo engine top inner p p' → MayKnow p inner → Promises inner (core_stmts false p.statements) → Agrees engine.constants inner [] → KnowsNoGlobal top → RefinesWhere engine top p p'
unfolding run_script
script_refines {engine} {top} {inner} {p} {p'} to may promise inside none = record {
  runs = λ host scope e ag.
      let w = world_of engine host (core_script p).functions in
      subst (λ ks. RunRefines (run_at true w (core_script p) e scope) (run_at true (record { engine = engine; host = host; functions = ks }) (core_script p') e scope)) (sym (same_keys to.functions)) (in_world w top inner p p' scope e to may promise inside none ag);
}

may_know : (engine : Engine) (scope : List ScopeEntry) (p : Script) → MayKnow p (known_inside engine scope p)
may_know engine scope p = by (captures_nothing p) refl where
  by : (b : Bool) → captures_nothing p ≡ b → MayKnow p (cond b (known_in_bodies engine scope ++ known_globals p.statements) [])
  by true h = none_capture h
  by false h = nothing_known

-- a script rewritten by what the record and a scope fix
pub optimised_refines : (engine : Engine) (scope : List ScopeEntry) {p p' : Script} → OptimisedTo engine scope p p' → RefinesWhere engine (known_at_top engine scope) p p'
optimised_refines engine scope {p} to = script_refines to (may_know engine scope p) (promises_inside engine scope p) (agrees_inside engine scope p) (none_at_top engine scope)
