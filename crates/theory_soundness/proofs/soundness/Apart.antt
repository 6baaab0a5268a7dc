-- Where no call captures, it makes no difference whether a body may see the scope of one that does.
use Rattle.std.proofs.Common.{◌≡◌, ℕ, zero, suc, Bool, true, false, cond, List, [], ◌∷◌, ◌++◌, Option, Some, None, refl, ap}
use Rattle.rhai_base.specs.Value.{Text, Value}
use Rattle.theory_meaning.specs.Act.{EntryKind, resolved, ScopeEntry, HostCall, Answer, World, Store, Ending, Stuck, Root, Result, ScriptCall, Key, Act, Stop, Fail, Then, Turn, Read, Write, Resolve, AskHost, Invoke, Loop, Scoped, Acts, Only, Do, Named, Finish, Env, and_then, with_turn, call_then, leave, returned, rounds, run, run_all, inside}
use Rattle.theory_meaning.specs.Calls.{same_key}
use Rattle.theory_meaning.specs.Core.{Function, Script}
use Rattle.theory_meaning.specs.Run.{EntryPoint, AtStatements, AtFunction, run_at, key_of, function_of, entered, seen, bind, body_acts, call_body, env_at, called_from, started}
use Rattle.theory_meaning.proofs.Congruent.{Congruent}

-- no call in it captures: what it calls runs apart from its scope
mutual
  pub data Apart : Act → Type 0 where
    apart_stop : {e : Ending} → Apart (Stop e)
    apart_fail : {f : Stuck} → Apart (Fail f)
    apart_then : {a : Act} {next : Ending → Act} → Apart a → ((e : Ending) → Apart (next e)) → Apart (Then a next)
    apart_turn : {a : Act} → Apart a → Apart (Turn a)
    apart_read : {r : Root} → Apart (Read r)
    apart_write : {must : Bool} {r : Root} {v : Value} → Apart (Write must r v)
    apart_resolve : {x : Text} {next : Text → Act} → ((m : Text) → Apart (next m)) → Apart (Resolve x next)
    apart_ask : {c : HostCall} {next : Answer → Act} → ((a : Answer) → Apart (next a)) → Apart (AskHost c next)
    apart_invoke : {a : ScriptCall} {next : Value → Option Value → Act} → a.captures ≡ false → ((v : Value) (u : Option Value) → Apart (next v u)) → Apart (Invoke a next)
    apart_loop : {a : Act} → Apart a → Apart (Loop a)
    apart_scoped : {p : Acts} → AllApart p → Apart (Scoped p)

  pub data AllApart : Acts → Type 0 where
    apart_only : {a : Act} → Apart a → AllApart (Only a)
    apart_do : {a : Act} {next : Ending → Acts} → Apart a → ((e : Ending) → AllApart (next e)) → AllApart (Do a next)
    apart_named : {x : Text} {c : EntryKind} {v : Value} {p : Acts} → AllApart p → AllApart (Named x c v p)
    apart_finish : {p : Acts} → AllApart p → AllApart (Finish p)

abbrev pub IsFalse : Bool → Type 0
IsFalse b = b ≡ false

pub apart_congruent : Congruent (λ a b. Apart a) IsFalse
apart_congruent = record {
  stop = λ e. apart_stop;
  fail = λ f. apart_fail;
  and_then = λ a b next next' h k. apart_then h k;
  turn = λ a b h. apart_turn h;
  read = λ r. apart_read;
  write = λ must r v. apart_write;
  resolve = λ x next next' h. apart_resolve h;
  ask = λ c next next' h. apart_ask h;
  invoke = λ a next next' ok h. apart_invoke ok h;
  loop = λ a b h. apart_loop h;
  plain = refl;
}

-- two environments that differ for calls that capture alone
pub record SameBut (env env' : Env) : Type 0 where
  pub rounds : env.rounds ≡ env'.rounds
  pub invoke : (a : ScriptCall) (s : Store) (t : ℕ) → a.captures ≡ false → env.invoke a s t ≡ env'.invoke a s t

same_rounds : (n n' : ℕ) (r r' : Store → ℕ → Result) → n ≡ n' → ((s : Store) (t : ℕ) → r s t ≡ r' s t) → (s : Store) (t : ℕ) → rounds n r s t ≡ rounds n' r' s t
same_rounds n n' r r' e h s t = λ i. rounds (e i) (λ s1 t1. h s1 t1 i) s t

module _ (w : World) (env env' : Env) (but : SameBut env env') where
  mutual
    same_run : {a : Act} → Apart a → (s : Store) (t : ℕ) → run w env a s t ≡ run w env' a s t
    same_run apart_stop s t = refl
    same_run apart_fail s t = refl
    same_run (apart_then h k) s t = λ i. and_then (same_run h s t i) (λ e s1 t1. same_run (k e) s1 t1 i)
    same_run (apart_turn h) s t = λ i. with_turn t s (λ s1 t1. same_run h s1 t1 i)
    same_run apart_read s t = refl
    same_run apart_write s t = refl
    same_run (apart_resolve {x = x} h) s t = same_run (h (resolved s.scope x)) s t
    same_run (apart_ask {c = c} h) s t = same_run (h (w.host.answer s.calls c)) (record s { calls = s.calls ++ c ∷ [] }) t
    same_run (apart_invoke {a = a} e h) s t = λ i. call_then s (but.invoke a s t e i) (λ v u s1 t1. same_run (h v u) s1 t1 i)
    same_run (apart_loop {a = a} h) s t = same_rounds env.rounds env'.rounds (run w env a) (run w env' a) but.rounds (λ s1 t1. same_run h s1 t1) s t
    same_run (apart_scoped h) s t = ap (leave s) (same_run_all h (inside s) t)

    pub same_run_all : {p : Acts} → AllApart p → (s : Store) (t : ℕ) → run_all w env p s t ≡ run_all w env' p s t
    same_run_all (apart_only h) s t = same_run h s t
    same_run_all (apart_do h k) s t = λ i. and_then (same_run h s t i) (λ e s1 t1. same_run_all (k e) s1 t1 i)
    same_run_all (apart_named h) s t = same_run_all h _ t
    same_run_all (apart_finish h) s t = ap returned (same_run_all h s t)

-- ---- so are the bodies of a script

abbrev pub BodiesApart : World → List Function → Type 0
BodiesApart w [] = Unit {0}
BodiesApart w (f ∷ fs) = AllApart (body_acts w f.body) × BodiesApart w fs

data FoundApart (w : World) : Option Function → Type 0 where
  none_found : FoundApart w None
  found_apart : {f : Function} → AllApart (body_acts w f.body) → FoundApart w (Some f)

found_or : (w : World) (b : Bool) (f : Function) (o : Option Function) → AllApart (body_acts w f.body) → FoundApart w o → FoundApart w (cond b (Some f) o)
found_or w true f o h k = found_apart h
found_or w false f o h k = k

find_apart : (w : World) (fs : List Function) (k : Key) → BodiesApart w fs → FoundApart w (function_of fs k)
find_apart w [] k h = none_found
find_apart w (f ∷ fs) k h = found_or w (same_key (key_of f) k) f (function_of fs k) h.0 (find_apart w fs k h.1)

same_entered : (f : Function) (a : ScriptCall) (s : Store) → a.captures ≡ false → entered true f a s ≡ entered false f a s
same_entered f a s e = ap (λ b. called_from s (bind f.params a.arguments (seen b s.scope)) a.this) e

same_body : (w : World) (env env' : Env) → SameBut env env' → (o : Option Function) → FoundApart w o → (a : ScriptCall) (s : Store) (t : ℕ) → a.captures ≡ false → call_body true w env o a s t ≡ call_body false w env' o a s t
same_body w env env' but None h a s t e = refl
same_body w env env' but (Some f) (found_apart h) a s t e = λ i. with_turn t (same_entered f a s e i) (λ s1 t1. same_run_all w env env' but h s1 t1 i)

same_at : (w : World) (fs : List Function) → BodiesApart w fs → (d : ℕ) → SameBut (env_at true w fs d) (env_at false w fs d)
same_at w fs h zero = record { rounds = refl; invoke = λ a s t e. refl }
same_at w fs h (suc d) = record {
  rounds = refl;
  invoke = λ a s t e. same_body w (env_at true w fs d) (env_at false w fs d) (same_at w fs h d) (function_of fs a.function) (find_apart w fs a.function h) a s t e;
}

pub same_script : (w : World) (p : Script) → AllApart (body_acts w p.statements) → BodiesApart w p.functions → (e : EntryPoint) (scope : List ScopeEntry) (n : ℕ) → run_at true w p e scope n ≡ run_at false w p e scope n
same_script w p h k AtStatements scope n = same_run_all w (env_at true w p.functions n) (env_at false w p.functions n) (same_at w p.functions k n) h _ n
same_script w p h k (AtFunction f this vs) scope n =
    same_body w (env_at true w p.functions n) (env_at false w p.functions n) (same_at w p.functions k n) (function_of p.functions f) (find_apart w p.functions f k) _ (started []) n refl
