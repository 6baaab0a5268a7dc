-- A run depends on its host only at the calls that it makes: a host that answers these alike gives the same result.
use Rattle.std.proofs.Common.{◌≡◌, ℕ, zero, suc, Bool, true, List, [], ◌∷◌, ◌++◌, map, Option, Some, None, refl, ap, subst, ◌∙◌}
use Rattle.rhai_base.specs.Value.{Text, Value}
use Rattle.theory_meaning.specs.Engine.{Engine}
use Rattle.theory_meaning.specs.Act.{ScopeEntry, HostCall, Host, Key, Store, World, Again, Ending, Gives, Leaves, Ended, Halted, Result, At, OfName, OfGlobal, OfThis, ScriptCall, Act, Stop, Fail, Then, Turn, Read, Write, Resolve, AskHost, Invoke, Loop, Scoped, Acts, Only, Do, Named, Finish, Env, and_then, with_turn, resolved, inside, leave, call_then, returned, on_again, rounds, run, run_all}
use Rattle.theory_meaning.specs.Agreeing.{SameAnswers, AgreeOn}
use Rattle.theory_meaning.specs.Relations.{Begins, calls_of, store_of}
use Rattle.theory_meaning.specs.Core.{Function, Script}
use Rattle.theory_meaning.specs.Run.{EntryPoint, AtStatements, AtFunction, key_of, function_of, entered, started, body_acts, call_body, invoke_at, env_at, run_at, run_script, report_of}
use Rattle.theory_meaning.proofs.Depths.{adds_at}
use Rattle.theory_meaning.proofs.SameActs.{same_body}
use Rattle.theory_meaning.proofs.Relations.{Keeps}
use Rattle.theory_meaning.proofs.Preserves.{After, begins_trans, preserves_on_again, preserves_rounds, after_same, OnlyAdds, preserves, preserves_all}
use Rattle.theory_meaning.proofs.Monotone.{Action}

module _ (h h' : Host) where
  -- where the answers are those of the first result's calls, the second result is the first
  abbrev pub Same : Result → Result → Type 0
  Same r r' = SameAnswers h h' (calls_of r) → r ≡ r'

  earlier : (cs ds : List HostCall) → Begins cs ds → SameAnswers h h' ds → SameAnswers h h' cs
  earlier cs ds b q past c p = q past c (begins_trans p b)

  abbrev Adds : Action → Type 0
  Adds f = (s : Store) (t : ℕ) → Begins s.calls (calls_of (f s t))

  same_then : (r r' : Result) (f f' : Ending → Action) → ((e : Ending) → Adds (f e)) → Same r r' → ((e : Ending) (s : Store) (t : ℕ) → Same (f e s t) (f' e s t)) → Same (and_then r f) (and_then r' f')
  same_then (At (Ended e) s t) r' f f' g k j q = j e s t q ∙ ap (λ x. and_then x f') (k (earlier _ _ (g e s t) q))
  same_then (At (Halted x) s t) r' f f' g k j q = ap (λ x. and_then x f') (k q)

  same_call : (old : Store) (r r' : Result) (f f' : Value → Option Value → Action) → ((v : Value) (u : Option Value) → Adds (f v u)) → Same r r' → ((v : Value) (u : Option Value) (s : Store) (t : ℕ) → Same (f v u s t) (f' v u s t)) → Same (call_then old r f) (call_then old r' f')
  same_call old (At (Ended (Gives v)) s t) r' f f' g k j q = j v s.this (record old { calls = s.calls }) t q ∙ ap (λ x. call_then old x f') (k (earlier _ _ (g v s.this (record old { calls = s.calls }) t) q))
  same_call old (At o s t) r' f f' g k j q = ap (λ x. call_then old x f') (k q)

  same_turn : (t : ℕ) (s : Store) (f f' : Action) → ((t1 : ℕ) → Same (f s t1) (f' s t1)) → Same (with_turn t s f) (with_turn t s f')
  same_turn zero s f f' k q = refl
  same_turn (suc t) s f f' k q = k t q

  same_leave : (old : Store) (r r' : Result) → Same r r' → Same (leave old r) (leave old r')
  same_leave old (At o s t) r' k q = ap (leave old) (k q)

  same_returned : (r r' : Result) → Same r r' → Same (returned r) (returned r')
  same_returned (At o s t) r' k q = ap returned (k q)

  same_on_again : (e : Ending) (f f' : Action) (s : Store) (t : ℕ) → Same (f s t) (f' s t) → Same (on_again e f s t) (on_again e f' s t)
  same_on_again (Leaves Again) f f' s t k q = k q
  same_on_again e f f' s t k q = refl

  same_rounds : (n : ℕ) (f f' : Action) → ((s : Store) (t : ℕ) → After Keeps s (store_of (f s t))) → ((s : Store) (t : ℕ) → Same (f s t) (f' s t)) → (s : Store) (t : ℕ) → Same (rounds n f s t) (rounds n f' s t)
  same_rounds zero f f' g k s t =
      same_then (f s t) _ _ _ (λ e s1 t1. (preserves_on_again e _ s1 t1 (after_same s1)).calls) (k s t) (λ e s1 t1. same_on_again e _ _ s1 t1 (λ q. refl))
  same_rounds (suc n) f f' g k s t =
      same_then (f s t) _ _ _ (λ e s1 t1. (preserves_on_again e _ s1 t1 (preserves_rounds n f g s1 t1)).calls) (k s t) (λ e s1 t1. same_on_again e _ _ s1 t1 (same_rounds n f f' g k s1 t1))

  -- two environments of the two hosts
  pub record SameEnv (env env' : Env) : Type 0 where
    pub rounds : env.rounds ≡ env'.rounds
    pub invoke : (a : ScriptCall) (s : Store) (t : ℕ) → Same (env.invoke a s t) (env'.invoke a s t)
    pub adds : OnlyAdds env

  module _ (engine : Engine) (functions : List Key) where
    abbrev pub w : World
    w = record { engine = engine; host = h; functions = functions }

    abbrev pub w' : World
    w' = record { engine = engine; host = h'; functions = functions }

    module _ (env env' : Env) (g : SameEnv env env') where
      mutual
        pub same_run : (a : Act) (s : Store) (t : ℕ) → Same (run w env a s t) (run w' env' a s t)
        same_run (Stop e) s t q = refl
        same_run (Fail f) s t q = refl
        same_run (Then a next) s t q = same_then (run w env a s t) _ _ _ (λ e s1 t1. (preserves w env g.adds (next e) s1 t1).calls) (same_run a s t) (λ e s1 t1. same_run (next e) s1 t1) q
        same_run (Turn a) s t q = same_turn t s _ _ (λ t1. same_run a s t1) q
        same_run (Read (OfName x)) s t q = refl
        same_run (Read (OfGlobal x)) s t q = refl
        same_run (Read OfThis) s t q = refl
        same_run (Write must (OfName x) v) s t q = refl
        same_run (Write must (OfGlobal x) v) s t q = refl
        same_run (Write must OfThis v) s t q = refl
        same_run (Resolve a next) s t q = same_run (next (resolved s.scope a)) s t q
        same_run (AskHost c next) s t q =
            let s1 = record s { calls = s.calls ++ c ∷ [] } in
            let b = (preserves w env g.adds (next (h.answer s.calls c)) s1 t).calls in
            same_run (next (h.answer s.calls c)) s1 t q ∙ ap (λ x. run w' env' (next x) s1 t) (q s.calls c b)
        same_run (Invoke a next) s t q = same_call s (env.invoke a s t) _ _ _ (λ v u s1 t1. (preserves w env g.adds (next v u) s1 t1).calls) (g.invoke a s t) (λ v u s1 t1. same_run (next v u) s1 t1) q
        same_run (Loop a) s t q =
            same_rounds env.rounds _ _ (λ s1 t1. preserves w env g.adds a s1 t1) (λ s1 t1. same_run a s1 t1) s t q ∙ ap (λ n. rounds n (run w' env' a) s t) g.rounds
        same_run (Scoped p) s t q = same_leave s (run_all w env p (inside s) t) _ (same_run_all p (inside s) t) q

        pub same_run_all : (p : Acts) (s : Store) (t : ℕ) → Same (run_all w env p s t) (run_all w' env' p s t)
        same_run_all (Only a) s t = same_run a s t
        same_run_all (Do a next) s t = same_then (run w env a s t) _ _ _ (λ e s1 t1. (preserves_all w env g.adds (next e) s1 t1).calls) (same_run a s t) (λ e s1 t1. same_run_all (next e) s1 t1)
        same_run_all (Named x k v p) s t = same_run_all p _ t
        same_run_all (Finish p) s t = same_returned (run_all w env p s t) _ (same_run_all p s t)

-- ---- scripts

module _ (engine : Engine) (h h' : Host) (modules : (x : Text) → h.module_value x ≡ h'.module_value x) (paths : (p : Text) → h.module_of p ≡ h'.module_of p) (texts : (v : Value) → h.text v ≡ h'.text v) (lends : Bool) where
  module _ (keys : List Key) where
    same_body_call : (env env' : Env) → SameEnv h h' env env' → (o : Option Function) (a : ScriptCall) (s : Store) (t : ℕ) → Same h h' (call_body lends (w h h' engine keys) env o a s t) (call_body lends (w' h h' engine keys) env' o a s t)
    same_body_call env env' g None a from t q = refl
    same_body_call env env' g (Some f) a from t q =
        let s = entered lends f a from in
        same_turn h h' t s _ (λ s1 t1. run_all (w' h h' engine keys) env' (body_acts (w h h' engine keys) f.body) s1 t1) (λ t1. same_run_all h h' engine keys env env' g (body_acts (w h h' engine keys) f.body) s t1) q
        ∙ ap (λ p. with_turn t s (λ s1 t1. run_all (w' h h' engine keys) env' p s1 t1)) (same_body engine keys h h' modules paths texts f.body)

    same_invoke : (fs : List Function) (d : ℕ) (a : ScriptCall) (s : Store) (t : ℕ) → Same h h' (invoke_at lends (w h h' engine keys) fs d a s t) (invoke_at lends (w' h h' engine keys) fs d a s t)
    same_invoke fs zero a s t q = refl
    same_invoke fs (suc d) a s t q =
        same_body_call _ _ (record { rounds = refl; invoke = same_invoke fs d; adds = adds_at lends (w h h' engine keys) fs d }) (function_of fs a.function) a s t q

    same_env : (fs : List Function) (d : ℕ) → SameEnv h h' (env_at lends (w h h' engine keys) fs d) (env_at lends (w' h h' engine keys) fs d)
    same_env fs d = record { rounds = refl; invoke = same_invoke fs d; adds = adds_at lends (w h h' engine keys) fs d }

    same_run_at : (p : Script) (e : EntryPoint) (scope : List ScopeEntry) (n : ℕ) → Same h h' (run_at lends (w h h' engine keys) p e scope n) (run_at lends (w' h h' engine keys) p e scope n)
    same_run_at p AtStatements scope n q =
        let s : Store = started scope in
        same_run_all h h' engine keys _ _ (same_env p.functions n) (body_acts (w h h' engine keys) p.statements) s n q
        ∙ ap (λ q1. run_all (w' h h' engine keys) (env_at lends (w' h h' engine keys) p.functions n) q1 s n) (same_body engine keys h h' modules paths texts p.statements)
    same_run_at p (AtFunction k this vs) scope n q = same_body_call _ _ (same_env p.functions n) (function_of p.functions k) _ (started []) n q

-- the whole script, by the calls that its run reports
pub same_script : (engine : Engine) (h h' : Host) (p : Script) (e : EntryPoint) (scope : List ScopeEntry) (n : ℕ) → AgreeOn h h' (calls_of (run_script engine h p e scope n)) → run_script engine h p e scope n ≡ run_script engine h' p e scope n
unfolding run_script
same_script engine h h' p e scope n g = same_run_at engine h h' g.modules g.paths g.texts true (map key_of p.functions) p e scope n g.answers

report_calls : (e : EntryPoint) (r : Result) → (report_of e r).calls ≡ calls_of r
report_calls e (At o s t) = refl

pub same_report : (engine : Engine) (h h' : Host) (p : Script) (e : EntryPoint) (scope : List ScopeEntry) (n : ℕ) → AgreeOn h h' (report_of e (run_script engine h p e scope n)).calls → report_of e (run_script engine h p e scope n) ≡ report_of e (run_script engine h' p e scope n)
same_report engine h h' p e scope n g = ap (report_of e) (same_script engine h h' p e scope n (subst (AgreeOn h h') (report_calls e (run_script engine h p e scope n)) g))
