-- Script calls within one another: at each depth they add calls alone, and deeper they end as before.
use Rattle.std.proofs.Common.{◌≡◌, ℕ, zero, suc, ◌+◌, ◌≤◌, Bool, List, Option, Some, None, refl, arith}
use Rattle.theory_meaning.specs.Act.{HostCall, ScriptCall, Store, World, Env, with_turn}
use Rattle.theory_meaning.specs.Core.{Function}
use Rattle.theory_meaning.specs.Relations.{Begins, here, calls_of}
use Rattle.theory_meaning.specs.Run.{function_of, entered, body_acts, call_body, env_at}
use Rattle.theory_meaning.proofs.Relations.{Follows, same, short, IsOut}
use Rattle.theory_meaning.proofs.Preserves.{OnlyAdds, preserves_all}
use Rattle.theory_meaning.proofs.Monotone.{Action, Deeper, follow_turn, monotone_all}

begins_turn : (calls : List HostCall) (s : Store) (t : ℕ) (next : Action) → Begins calls s.calls → ((t1 : ℕ) → Begins calls (calls_of (next s t1))) → Begins calls (calls_of (with_turn t s next))
begins_turn calls s zero next b h = b
begins_turn calls s (suc t) next b h = h t

module _ (lends : Bool) (w : World) where
  body_anywhere : (env : Env) (o : Option Function) (a : ScriptCall) (b : Bool) (s : Store) (t : ℕ) → call_body lends w env o a (record s { is_own = b }) t ≡ call_body lends w env o a s t
  body_anywhere env None a b s t = refl
  body_anywhere env (Some f) a b s t = refl

  pub body_adds : (env : Env) → OnlyAdds env → (o : Option Function) (a : ScriptCall) (s : Store) (t : ℕ) → Begins s.calls (calls_of (call_body lends w env o a s t))
  body_adds env adds None a s t = here
  body_adds env adds (Some f) a s t =
      let s1 = entered lends f a s in
      begins_turn s.calls s1 t _ here (λ t1. (preserves_all w env adds (body_acts w f.body) s1 t1).calls)

  pub body_rises : (n : ℕ) (env env' : Env) → Deeper IsOut tt n env env' → (o : Option Function) (a : ScriptCall) (s : Store) (t t' : ℕ) → t + n ≤ t' → Follows IsOut n (call_body lends w env o a s t) (call_body lends w env' o a s t')
  body_rises n env env' deep None a s t t' le = same le
  body_rises n env env' deep (Some f) a s t t' le =
      follow_turn IsOut tt n _ t t' le _ _
      (λ t1 t1' le1. monotone_all IsOut tt n w env env' deep (body_acts w f.body) _ t1 t1' le1)
      (λ s1 t1. (preserves_all w env' deep.adds (body_acts w f.body) s1 t1).calls)

  module _ (fs : List Function) where
    pub adds_at : (d : ℕ) → OnlyAdds (env_at lends w fs d)
    adds_at zero = record { calls = λ a s t. here; anywhere = λ a b s t. refl }
    adds_at (suc d) = record {
      calls = λ a s t. body_adds (env_at lends w fs d) (adds_at d) (function_of fs a.function) a s t;
      anywhere = λ a b s t. body_anywhere (env_at lends w fs d) (function_of fs a.function) a b s t;
    }

    pub deeper_at : (d d' n : ℕ) → d ≤ d' → Deeper IsOut tt n (env_at lends w fs d) (env_at lends w fs d')
    deeper_at zero d' n le = record { rounds = le; adds = adds_at d'; invoke = λ a s t t' lt. short tt ((adds_at d').calls a s t') }
    deeper_at (suc d) zero n le = absurd (omega arith)
    deeper_at (suc d) (suc d') n le = record {
      rounds = le;
      adds = adds_at (suc d');
      invoke = λ a s t t' lt. body_rises n _ _ (deeper_at d d' n (omega arith)) (function_of fs a.function) a s t t' lt;
    }
