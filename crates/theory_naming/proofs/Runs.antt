-- Script calls and whole runs that run alike but for names.
use Rattle.std.proofs.Common.{◌≡◌, ℕ, zero, suc, ◌-◌, Bool, true, false, cond, ◌&&◌, List, [], ◌∷◌, map, Option, Some, None, refl, ap, sym, ◌∙◌}
use Rattle.rhai_base.specs.Value.{Text, Value, same_text, text_of}
use Rattle.theory_meaning.specs.Engine.{Engine, constant_named}
use Rattle.theory_meaning.specs.Act.{ScopeEntry, Store, Host, Key, World, IsStuck, OutOfTurns, Unbound, ScriptCall, Env, rounds, IsVariable}
use Rattle.theory_naming.specs.Naming.{OptionOf, both_none, both_some, ListOf, both_empty, both_more, Like, Likes, MaybeLike, EntryLike, entry_like, CallLike, HostLike, StoreLike, halted_like, ResultLike, at_like, KeyLike, ScriptCallLike, script_call_like, ComputedLike, FunctionLike, function_like, ScriptLike, EntryPointLike, at_statements_like, at_function_like}
use Rattle.std.specs.Prelude.{◌||◌}
use Rattle.rhai_base.specs.Operators.{Operator, computed}
use Rattle.theory_meaning.specs.Calls.{has_key, same_key}
use Rattle.theory_meaning.specs.Core.{Function, Script}
use Rattle.theory_meaning.specs.Run.{key_of, function_of, bind, seen, called_from, entered, started, call_body, invoke_at, env_at, world_of, EntryPoint, run_at, run_script}
use Rattle.theory_naming.proofs.Acts.{r_body, EnvLike}
use Rattle.theory_naming.proofs.Scopes.{turn_like}

module _ {N : Text → Text → Type 0} where
  bind_like : (xs : List Text) {vs ws : List Value} → Likes N vs ws → {es fs : List ScopeEntry} → ListOf (EntryLike N) es fs → ListOf (EntryLike N) (bind xs vs es) (bind xs ws fs)
  bind_like [] h k = k
  bind_like (x ∷ xs) both_empty k = k
  bind_like (x ∷ xs) (both_more h j) k = bind_like xs j (both_more (entry_like x IsVariable h) k)

  seen_like : (b : Bool) {es fs : List ScopeEntry} → ListOf (EntryLike N) es fs → ListOf (EntryLike N) (seen b es) (seen b fs)
  seen_like true h = h
  seen_like false h = both_empty

  called_from_like : {s s' : Store} → StoreLike N s s' → {es fs : List ScopeEntry} → ListOf (EntryLike N) es fs → {o p : Option Value} → MaybeLike N o p → StoreLike N (called_from s es o) (called_from s' fs p)
  called_from_like q h o = record { scope = h; globals = q.globals; own = refl; this = o; calls = q.calls }

  entered_like : (lends : Bool) {f g : Function} → FunctionLike N f g → {a b : ScriptCall} → ScriptCallLike N a b → {s s' : Store} → StoreLike N s s' → StoreLike N (entered lends f a s) (entered lends g b s')
  entered_like lends (function_like f g t xs body) (script_call_like b k o h) q = called_from_like q (bind_like xs h (seen_like (lends && b) q.scope)) o

  started_like : {es fs : List ScopeEntry} → ListOf (EntryLike N) es fs → StoreLike N (started es) (started fs)
  started_like h = record { scope = h; globals = both_empty; own = refl; this = both_none; calls = both_empty }

abbrev is_some : {A : Type 0} → Option A → Bool
is_some None = false
is_some (Some a) = true

some_or : (b : Bool) (f : Function) (o : Option Function) → (b || is_some o) ≡ is_some (cond b (Some f) o)
some_or true f o = refl
some_or false f o = refl

has_function : (fs : List Function) (k : Key) → has_key (map key_of fs) k ≡ is_some (function_of fs k)
has_function [] k = refl
has_function (f ∷ fs) k = ap (λ b. same_key (key_of f) k || b) (has_function fs k) ∙ some_or (same_key (key_of f) k) f (function_of fs k)

both_some_or_none : {A : Type 0} {S : A → A → Type 0} {o p : Option A} → OptionOf S o p → is_some o ≡ is_some p
both_some_or_none both_none = refl
both_some_or_none (both_some h) = refl

module _ (N : Text → Text → Type 0) (one : (f f' g g' : Text) → N f f' → N g g' → same_text f g ≡ same_text f' g') (texts : (v v' : Value) → Like N v v' → text_of v ≡ text_of v') (table : (op : Operator) (vs ws : List Value) → Likes N vs ws → ComputedLike N (computed op vs) (computed op ws)) (engine : Engine) (known : (x : Text) → MaybeLike N (constant_named engine.constants x) (constant_named engine.constants x)) (h h' : Host) (hosts : HostLike N h h') where
  module _ (p q : Script) (like : ScriptLike N p q) where
    fs : List Function
    fs = p.functions

    abbrev keys_of : List Function → List Key
    keys_of gs = map key_of gs

    keys_like : (k l : Key) → KeyLike N k l → has_key (keys_of p.functions) k ≡ has_key (keys_of q.functions) l
    keys_like k l j = has_function p.functions k ∙ both_some_or_none (like.functions k l j) ∙ sym (has_function q.functions l)

    abbrev v : World
    v = world_of engine h p.functions

    abbrev v' : World
    v' = world_of engine h' q.functions

    abbrev Envs : Env → Env → Type 0
    Envs env env' = EnvLike N engine known h h' hosts (keys_of p.functions) (keys_of q.functions) env env'

    call_body_like : (env env' : Env) → Envs env env' → {o o' : Option Function} → OptionOf (FunctionLike N) o o' → {a b : ScriptCall} → ScriptCallLike N a b → {s s' : Store} → StoreLike N s s' → (t : ℕ) → ResultLike N (call_body true v env o a s t) (call_body true v' env' o' b s' t)
    call_body_like env env' envs both_none j z t = at_like t (halted_like (IsStuck Unbound)) (called_from_like z both_empty both_none)
    call_body_like env env' envs (both_some (function_like f g n xs body)) j z t =
        let s = entered_like true (function_like f g n xs body) j z in
        turn_like t s _ _ (λ t1. (r_body N engine known h h' hosts (keys_of p.functions) (keys_of q.functions) env env' envs one texts table keys_like body).at _ _ s t1)

    invoke_like : (d : ℕ) (a b : ScriptCall) → ScriptCallLike N a b → (s s' : Store) → StoreLike N s s' → (t : ℕ) → ResultLike N (invoke_at true v p.functions d a s t) (invoke_at true v' q.functions d b s' t)
    invoke_like zero a b j s s' l t = at_like t (halted_like OutOfTurns) (called_from_like l both_empty both_none)
    invoke_like (suc d) a b (script_call_like c n o m) s s' l t =
        call_body_like _ _ (record { rounds = refl; invoke = invoke_like d }) (like.functions _ _ n) (script_call_like c n o m) l t

    env_like : (d : ℕ) → Envs (env_at true v p.functions d) (env_at true v' q.functions d)
    env_like d = record { rounds = refl; invoke = invoke_like d }

    at_like_entry : {e e' : EntryPoint} → EntryPointLike N e e' → {es es' : List ScopeEntry} → ListOf (EntryLike N) es es' → (n : ℕ) → ResultLike N (run_at true v p e es n) (run_at true v' q e' es' n)
    at_like_entry at_statements_like k n = (r_body N engine known h h' hosts (keys_of p.functions) (keys_of q.functions) _ _ (env_like n) one texts table keys_like like.statements).at _ _ (started_like k) n
    at_like_entry (at_function_like m o j) k n = call_body_like _ _ (env_like n) (like.functions _ _ m) (script_call_like false m o j) (started_like both_empty) n

  -- The names of functions don't matter, nor their order, nor those that no name stands for.
  pub names_do_not_matter : (p q : Script) → ScriptLike N p q → (e e' : EntryPoint) → EntryPointLike N e e' → (es es' : List ScopeEntry) → ListOf (EntryLike N) es es' → (n : ℕ) → ResultLike N (run_script engine h p e es n) (run_script engine h' q e' es' n)
  unfolding run_script
  names_do_not_matter p q like e e' j es es' k n = at_like_entry p q like j k n
