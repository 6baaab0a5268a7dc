-- Whole scripts: calls of script functions, capturing or not, and runs.
use Rattle.std.proofs.Common.{◌≡◌, ℕ, zero, suc, ◌+◌, ◌≤◌, Bool, true, false, cond, ◌&&◌, ◌⊎◌, inl, inr, List, [], ◌∷◌, length, Option, Some, None, refl, sym, ◌∙◌, subst, arith}
use Rattle.rhai_base.specs.Value.{Text}
use Rattle.theory_meaning.specs.Act.{World, ScopeEntry, Key, ScriptCall, Store, Ending, Stuck, IsStuck, Outcome, Ended, Halted, Result, At, Acts, Env, with_turn, run_all}
use Rattle.theory_meaning.specs.Core.{Function, Script, Stmts}
use Rattle.theory_meaning.specs.Calls.{same_key, key}
use Rattle.theory_meaning.specs.Run.{function_of, seen, entered, body_acts, call_body, env_at, EntryPoint, AtStatements, AtFunction, run_at, started}
use Rattle.theory_meaning.proofs.Relations.{Follows, same, AnyHalt}
use Rattle.theory_meaning.proofs.Monotone.{Action, follows_begins, follows_refl, follows_trans}
use Rattle.theory_meaning.proofs.Ends.{Run, Ends, Met, out, ended, stuck, Rises, met_self, met_move, met_trans, met_turn}
use Rattle.theory_meaning.proofs.Depths.{deeper_at}
use Rattle.theory_rewriting.proofs.Knowing.{no_name, same_globals}
use Rattle.theory_rewriting.specs.Known.{Known, look_global, globals_of, shadow_all, Agrees, Holds}
use Rattle.theory_soundness.specs.Refines.{EndsSo, RunRefines}
use Rattle.theory_soundness.proofs.acts.Within.{AnyValue, Valueless, ResultIn, CallsIn, in_turn, returned_carries}
use Rattle.theory_soundness.proofs.simulation.Agreement.{KnowsNoGlobal, agrees_nothing, agrees_bind, holds_none, holds_bind, holds_unbind}
use Rattle.theory_soundness.proofs.simulation.Setting.{Environments, Setting, Agreed, Listed, steady_at}
use Rattle.theory_soundness.proofs.simulation.Matching.{Matches, Stage, SimulatesAllAt, CallsMatch, calling, ends_as, all_at_refl, own_no}
use Rattle.theory_soundness.proofs.simulation.Declaring.{Fair, fair_matches}
use Rattle.theory_soundness.proofs.simulation.Simulation.{SimulatesAll, along}

-- ---- the environments of a script

-- a call ends as a body does
pub calls_unbroken : (lends : Bool) (w : World) (fs : List Function) (d : ℕ) → CallsIn Valueless (env_at lends w fs d)
calls_unbroken lends w fs zero a s t = tt
calls_unbroken lends w fs (suc d) a s t = by (function_of fs a.function) where
  by : (o : Option Function) → ResultIn Valueless AnyValue (call_body lends w (env_at lends w fs d) o a s t)
  by None = tt
  by (Some f) = in_turn Valueless AnyValue t (entered lends f a s) (run_all w (env_at lends w fs d) (body_acts w f.body)) (λ t1. returned_carries _)

abbrev pub environments : Bool → World → List Function → Environments
environments lends w fs = record { by_depth = env_at lends w fs; deeper = deeper_at lends w fs; reaches = λ d. omega arith; unbroken = calls_unbroken lends w fs }

-- ---- functions that may stand for others: a function keeps its name, parameters and receiver type

-- in a world, whatever the environments
abbrev pub setting_in : (w : World) (known : List Known) → Environments → Setting (record { engine = w.engine; known = known })
setting_in w known envs = record { host = w.host; functions = w.functions; environments = envs; in_loop = false }

pub record BodySimulates (w : World) (known : List Known) (ss ss' : Stmts) : Type 0 where
  pub body : (envs : Environments) → SimulatesAll (setting_in w known envs) (body_acts w ss) (body_acts w ss')

pub data FunctionTo (w : World) (known : List Known) : Function → Function → Type 0 where
  function : {f : Text} {u : Option Text} {xs : List Text} {ss ss' : Stmts} → BodySimulates w (shadow_all xs known) ss ss' → FunctionTo w known (record { name = f; this_type = u; params = xs; body = ss }) (record { name = f; this_type = u; params = xs; body = ss' })

pub data FunctionsTo (w : World) (known : List Known) : List Function → List Function → Type 0 where
  no_functions : FunctionsTo w known [] []
  functions : {f f' : Function} {fs fs' : List Function} → FunctionTo w known f f' → FunctionsTo w known fs fs' → FunctionsTo w known (f ∷ fs) (f' ∷ fs')

data FoundTo (w : World) (known : List Known) : Option Function → Option Function → Type 0 where
  not_found : FoundTo w known None None
  found_to : {f f' : Function} → FunctionTo w known f f' → FoundTo w known (Some f) (Some f')

found_or : {w : World} {known : List Known} (b : Bool) (f f' : Function) (o o' : Option Function) → FunctionTo w known f f' → FoundTo w known o o' → FoundTo w known (cond b (Some f) o) (cond b (Some f') o')
found_or true f f' o o' h k = found_to h
found_or false f f' o o' h k = k

find_to : {w : World} {known : List Known} {fs fs' : List Function} → FunctionsTo w known fs fs' → (k : Key) → FoundTo w known (function_of fs k) (function_of fs' k)
find_to no_functions k = not_found
find_to (functions (function {f = f} {u = u} {xs = xs} p) q) k = found_or (same_key (key f (length xs) u) k) _ _ _ _ (function p) (find_to q k)

-- what is known in bodies holds where a body starts
pub record KnownInside (lends : Bool) (w : World) (known : List Known) : Type 0 where
  pub holds : (captures : Bool) (scope : List ScopeEntry) → Agrees w.engine.constants known (seen (lends && captures) scope)

-- nothing, where a body may see the scope of a call
pub inside_nothing : (w : World) → KnownInside true w []
inside_nothing w = record { holds = λ b scope. agrees_nothing w.engine.constants (seen (true && b) scope) }

follow_same_turn : (s : Store) (t : ℕ) (next next' : Action) → ((t1 : ℕ) → Follows AnyHalt 0 (next s t1) (next' s t1)) → Follows AnyHalt 0 (with_turn t s next) (with_turn t s next')
follow_same_turn s zero next next' h = follows_refl AnyHalt _
follow_same_turn s (suc t) next next' h = h t

module _ (lends : Bool) (w : World) (fs fs' : List Function) (known : List Known) (inside : KnownInside lends w known) (to : FunctionsTo w known fs fs') where
  abbrev old : ℕ → Env
  old = env_at lends w fs

  abbrev new : ℕ → Env
  new = env_at lends w fs'

  abbrev setting : (ks : List Known) → Setting (record { engine = w.engine; known = ks })
  setting ks = setting_in w ks (environments lends w fs)

  -- the old run, and the new functions
  abbrev stage : ℕ → Stage
  stage d = record { depth = d; env = new d; steady = steady_at (setting_in w [] (environments lends w fs')) d }

  abbrev body_call : Option Function → ScriptCall → Run
  body_call o a n s t = call_body lends w (old n) o a s t

  abbrev body_run : Stmts → Run
  body_run ss n = run_all w (old n) (body_acts w ss)

  -- from a body to the call
  ends_call_at : (a : ScriptCall) (s : Store) (o : Outcome) (s' : Store) (d m t n : ℕ) → suc m ≤ d → ((d' : ℕ) → m ≤ d' → (left : ℕ) × (n ≤ left) × (body_call (function_of fs a.function) a d' s t ≡ At o s' left)) → (left : ℕ) × (n ≤ left) × (calling old a d s t ≡ At o s' left)
  ends_call_at a s o s' zero m t n le h = absurd (omega arith)
  ends_call_at a s o s' (suc d) m t n le h = h d (omega arith)

  ends_call : (a : ScriptCall) (s : Store) (o : Outcome) (s' : Store) → Ends (body_call (function_of fs a.function) a) s o s' → Ends (calling old a) s o s'
  ends_call a s o s' x = record {
    depth = suc x.depth;
    turns = x.turns;
    over = x.over;
    by = λ d t n le lt. ends_call_at a s o s' d x.depth t n le (λ d' le'. x.by d' t n le' lt);
  }

  -- how calls match at a depth
  abbrev CallsAt : ℕ → Type 0
  CallsAt d = (a : ScriptCall) (s : Store) (t : ℕ) → Holds known s.globals → Matches (calling old a) d s t ((new d).invoke a s t)

  -- a body under these parameters
  body_step : (d : ℕ) → CallsAt d → (xs : List Text) (p q : Acts) → SimulatesAll (setting (shadow_all xs known)) p q → SimulatesAllAt (setting (shadow_all xs known)) (stage d) p q
  body_step d calls xs p q h = along p q q h (all_at_refl q (setting (shadow_all xs known)) (stage d) (record { rounds = omega arith; calls = λ a s t held. calls a s t (holds_unbind xs known s.globals held) }))

  stuck_rises : (a : ScriptCall) → Rises (body_call None a)
  stuck_rises a d d' n s t t' le lt = same lt

  body_matches : (d : ℕ) (calls : CallsAt d) (a : ScriptCall) (s : Store) (t : ℕ) → Holds known s.globals → (o o' : Option Function) → FoundTo w known o o' → Matches (body_call o a) d s t (call_body lends w (new d) o' a s t)
  body_matches d calls a s t held o o' not_found = record {
    forward = follows_refl AnyHalt _;
    backward = met_self (body_call None a) (stuck_rises a) d s t;
  }
  body_matches d calls a s t held o o' (found_to (function {f = f} {u = u} {xs = xs} {ss = ss} {ss' = ss'} p)) =
      let g : Function = record { name = f; this_type = u; params = xs; body = ss } in
      let s1 = entered lends g a s in
      let ks = shadow_all xs known in
      let h = body_step d calls xs (body_acts w ss) (body_acts w ss') (p.body (environments lends w fs)) in
      let ag : Listed (record { engine = w.engine; known = ks }) s1 = ((agrees_bind w.engine.constants xs a.arguments known _ (inside.holds a.captures s.scope), holds_bind xs known s.globals held), own_no) in
      record {
        forward = follow_same_turn s1 t _ _ (λ t1. (h.matches s1 t1 ag).forward);
        backward = met_move (λ n s2 t2. with_turn t2 s2 (body_run ss n)) (body_call (Some g) a) s1 s _ (λ o2 s2 x. ends_as (λ n t1. refl) x)
            (met_turn (body_run ss) _ s1 t (λ t1. (h.matches s1 t1 ag).backward));
      }

  calls_match : (d : ℕ) → CallsAt d
  calls_match zero a s t held = record { forward = follows_refl AnyHalt _; backward = out }
  calls_match (suc d) a s t held =
      let c = body_matches d (calls_match d) a s t held _ _ (find_to to a.function) in
      record { forward = c.forward; backward = met_move (body_call (function_of fs a.function) a) (calling old a) s s _ (λ o s' x. ends_call a s o s' x) c.backward }

  call_matches : (d : ℕ) (a : ScriptCall) (s : Store) (t : ℕ) → Holds known s.globals → Matches (body_call (function_of fs a.function) a) d s t (call_body lends w (new d) (function_of fs' a.function) a s t)
  call_matches d a s t held = body_matches d (calls_match d) a s t held _ _ (find_to to a.function)

  -- the script's own list: first with the new functions, then the new list
  own_matches : (d : ℕ) (top : List Known) (p q : Acts) → ((envs : Environments) → SimulatesAll (setting_in w top envs) p q) → Fair (globals_of known) p → (s : Store) (t : ℕ) → Holds known s.globals → Listed (record { engine = w.engine; known = top }) s → Matches (λ n. run_all w (old n) p) d s t (run_all w (new d) q s t)
  own_matches d top p q to_new fair s t held ag =
      let calls : (n : ℕ) → CallsMatch (setting (globals_of known)) (stage n) = λ n. record { rounds = omega arith; calls = λ a s1 t1 h. calls_match n a s1 t1 (record { is = λ x v e. h.is x v (same_globals known x ∙ e) }) } in
      let known_there : Agreed (record { engine = w.engine; known = globals_of known }) s = (record { is = λ x v h. absurd (let z : None ≡ Some v = sym (no_name known x) ∙ h in cc) }, record { is = λ x v e. held.is x v (sym (same_globals known x) ∙ e) }) in
      let first : (n t1 : ℕ) → Matches (λ m. run_all w (old m) p) n s t1 (run_all w (new n) p s t1) = λ n t1. fair_matches (setting (globals_of known)) (stage n) (calls n) (no_name known) fair s t1 known_there in
      let z = ((to_new (environments lends w fs')).at d).matches s t ag in
      record {
        forward = follows_trans (first d t).forward z.forward;
        backward = met_trans (λ n. run_all w (old n) p) (λ n. run_all w (new n) p) s _ (λ n t1. (first n t1).backward) z.backward;
      }

-- ---- runs

-- the new script: its functions, and its statements under what is known at top level
pub record ScriptTo (w : World) (top inner : List Known) (p p' : Script) : Type 0 where
  pub statements : BodySimulates w top p.statements p'.statements
  pub fair : Fair (globals_of inner) (body_acts w p.statements)
  pub functions : FunctionsTo w inner p.functions p'.functions

module _ (lends : Bool) (w : World) (top inner : List Known) (p p' : Script) (scope : List ScopeEntry) (inside : KnownInside lends w inner) (to : ScriptTo w top inner p p') (none : KnowsNoGlobal top) (ag : Agrees w.engine.constants top scope) where
  abbrev start : EntryPoint → Store
  start AtStatements = started scope
  start (AtFunction k this vs) = started []

  -- a run by depth
  abbrev whole : EntryPoint → Run
  whole AtStatements d s t = run_all w (env_at lends w p.functions d) (body_acts w p.statements) s t
  whole (AtFunction k this vs) d s t = call_body lends w (env_at lends w p.functions d) (function_of p.functions k) (record { function = k; captures = false; this = this; arguments = vs }) s t

  is_whole : (e : EntryPoint) (n : ℕ) → run_at lends w p e scope n ≡ whole e n (start e) n
  is_whole AtStatements n = refl
  is_whole (AtFunction k this vs) n = refl

  held_first : Holds inner []
  held_first = record { is = λ x v h. tt }

  run_matches : (e : EntryPoint) (n : ℕ) → Matches (whole e) n (start e) n (run_at lends w p' e scope n)
  run_matches AtStatements n =
      let c = own_matches lends w p.functions p'.functions inner inside to.functions n top _ _ to.statements.body to.fair (start AtStatements) n held_first ((ag, holds_none [] none), λ own. none) in
      record { forward = c.forward; backward = met_move _ (whole AtStatements) (start AtStatements) (start AtStatements) _ (λ o s' x. ends_as (λ d t1. refl) x) c.backward }
  run_matches (AtFunction k this vs) n =
      let e : EntryPoint = AtFunction k this vs in
      let c = call_matches lends w p.functions p'.functions inner inside to.functions n (record { function = k; captures = false; this = this; arguments = vs }) (start e) n held_first in
      record { forward = c.forward; backward = met_move _ (whole e) (start e) (start e) _ (λ o s' x. ends_as (λ d t1. refl) x) c.backward }

  follows_run : (e : EntryPoint) (n : ℕ) → Follows AnyHalt 0 (run_at lends w p e scope n) (run_at lends w p' e scope n)
  follows_run e n = subst (λ r. Follows AnyHalt 0 r (run_at lends w p' e scope n)) (sym (is_whole e n)) (run_matches e n).forward

  same_end_of : (o : Ending) (s : Store) (left : ℕ) (r' : Result) → Follows AnyHalt 0 (At (Ended o) s left) r' → (left' : ℕ) × (left ≤ left') × (r' ≡ At (Ended o) s left')
  same_end_of o s left r' (same {t' = t'} le) = (t', omega arith, refl)

  ends_so : (e : EntryPoint) (o : Outcome) (s : Store) → Ends (whole e) (start e) o s → EndsSo (run_at lends w p e scope) o s
  ends_so e o s x =
      let n = x.depth + x.turns in
      let z = x.by n n 0 (omega arith) (omega arith) in (n, z.0, is_whole e n ∙ z.2)

  met_end : (e : EntryPoint) (o : Ending) (s : Store) (left : ℕ) → Met (whole e) (start e) (At (Ended o) s left) → EndsSo (run_at lends w p e scope) (Ended o) s ⊎ ((f : Stuck) × (s' : Store) × EndsSo (run_at lends w p e scope) (Halted (IsStuck f)) s')
  met_end e o s left (ended x) = inl (ends_so e (Ended o) s x)
  met_end e o s left (stuck f s' x) = inr (f, s', ends_so e (Halted (IsStuck f)) s' x)

  met_stuck_end : (e : EntryPoint) (f : Stuck) (s : Store) (left : ℕ) → Met (whole e) (start e) (At (Halted (IsStuck f)) s left) → (f' : Stuck) × (s' : Store) × EndsSo (run_at lends w p e scope) (Halted (IsStuck f')) s'
  met_stuck_end e f s left (ended x) = (f, s, ends_so e (Halted (IsStuck f)) s x)
  met_stuck_end e f s left (stuck f' s' x) = (f', s', ends_so e (Halted (IsStuck f')) s' x)

  pub run_refines : (e : EntryPoint) → RunRefines (run_at lends w p e scope) (run_at lends w p' e scope)
  run_refines e = record {
    same_end = λ n o s left h. same_end_of o s left _ (subst (λ r. Follows AnyHalt 0 r (run_at lends w p' e scope n)) h (follows_run e n));
    same_calls = λ n. follows_begins (follows_run e n);
    no_new_end = λ n o s left h. met_end e o s left (subst (Met (whole e) (start e)) h (run_matches e n).backward);
    no_new_stuck = λ n f s left h. met_stuck_end e f s left (subst (Met (whole e) (start e)) h (run_matches e n).backward);
  }
