-- An act runs alike in the script's own list and in any other.
use Rattle.std.proofs.Common.{◌≡◌, ℕ, zero, suc, Bool, true, false, ◌∷◌, [], ◌++◌, Option, Some, None, refl, ap, ◌∙◌}
use Rattle.rhai_base.specs.Value.{Text, Value}
use Rattle.theory_meaning.specs.Engine.{constant_named}
use Rattle.theory_meaning.specs.Act.{ScopeEntry, is_constant, resolved, Store, World, Again, Ending, Gives, Leaves, OutOfTurns, Ended, Halted, Result, At, Root, OfName, OfGlobal, OfThis, Act, Stop, Fail, Then, Turn, Read, Write, Resolve, AskHost, Invoke, Loop, Scoped, Env, and_then, with_turn, found, read, read_global, read_this, read_root, write_at, write, write_global, write_this, write_root, inside, leave, call_then, on_again, rounds, run, run_all}
use Rattle.theory_meaning.specs.Relations.{OnlyAdds}
use Rattle.theory_meaning.proofs.Monotone.{Action}

-- in the script's own list, or not
abbrev pub within : Bool → Store → Store
within b s = record s { is_own = b }

abbrev pub ended_within : Bool → Result → Result
ended_within b (At o s t) = At o (within b s) t

-- an action that runs alike
abbrev Alike : Bool → Action → Type 0
Alike b f = (s : Store) (t : ℕ) → f (within b s) t ≡ ended_within b (f s t)

module _ (b : Bool) where
  then_alike : (r : Result) (next : Ending → Action) → ((e : Ending) → Alike b (next e)) → and_then (ended_within b r) next ≡ ended_within b (and_then r next)
  then_alike (At (Ended e) s t) next h = h e s t
  then_alike (At (Halted f) s t) next h = refl

  turn_alike : (t : ℕ) (s : Store) (next : Action) → Alike b next → with_turn t (within b s) next ≡ ended_within b (with_turn t s next)
  turn_alike zero s next h = refl
  turn_alike (suc t) s next h = h s t

  read_alike : (o : Option ScopeEntry) → Alike b (read o)
  read_alike None s t = refl
  read_alike (Some e) s t = refl

  read_global_alike : (o : Option Value) → Alike b (read_global o)
  read_global_alike None s t = refl
  read_global_alike (Some v) s t = refl

  read_this_alike : (o : Option Value) → Alike b (read_this o)
  read_this_alike None s t = refl
  read_this_alike (Some v) s t = refl

  read_root_alike : (w : World) (r : Root) → Alike b (read_root w r)
  read_root_alike w (OfName x) s t = read_alike (found w.engine.constants s.scope x) s t
  read_root_alike w (OfGlobal x) s t = read_global_alike (constant_named s.globals x) s t
  read_root_alike w OfThis s t = read_this_alike s.this s t

  write_at_alike : (must c : Bool) (x : Text) (v : Value) → Alike b (write_at must c x v)
  write_at_alike true true x v s t = refl
  write_at_alike false true x v s t = refl
  write_at_alike must false x v s t = refl

  write_alike : (must : Bool) (o : Option ScopeEntry) (x : Text) (v : Value) → Alike b (write must o x v)
  write_alike must None x v s t = refl
  write_alike must (Some e) x v s t = write_at_alike must (is_constant e.kind) x v s t

  write_global_alike : (must : Bool) (o : Option Value) → Alike b (write_global must o)
  write_global_alike must None s t = refl
  write_global_alike true (Some v) s t = refl
  write_global_alike false (Some v) s t = refl

  write_this_alike : (o : Option Value) (v : Value) → Alike b (write_this o v)
  write_this_alike None v s t = refl
  write_this_alike (Some u) v s t = refl

  write_root_alike : (w : World) (must : Bool) (r : Root) (v : Value) → Alike b (write_root w must r v)
  write_root_alike w must (OfName x) v s t = write_alike must (found w.engine.constants s.scope x) x v s t
  write_root_alike w must (OfGlobal x) v s t = write_global_alike must (constant_named s.globals x) s t
  write_root_alike w must OfThis v s t = write_this_alike s.this v s t

  call_alike : (old : Store) (r : Result) (next : Value → Option Value → Action) → ((v : Value) (u : Option Value) → Alike b (next v u)) → call_then (within b old) r next ≡ ended_within b (call_then old r next)
  call_alike old (At (Ended (Gives v)) s t) next h = h v s.this (record old { calls = s.calls }) t
  call_alike old (At (Ended (Leaves x)) s t) next h = refl
  call_alike old (At (Halted f) s t) next h = refl

  again_alike : (e : Ending) (next : Action) → Alike b next → Alike b (on_again e next)
  again_alike (Leaves Again) next h s t = h s t
  again_alike e next h s t = refl

  rounds_alike : (n : ℕ) (f : Action) → Alike b f → Alike b (rounds n f)
  rounds_alike zero f h s t = ap (λ r. and_then r (λ e. on_again e (λ s1 t1. At (Halted OutOfTurns) s1 t1))) (h s t) ∙ then_alike (f s t) _ (λ e. again_alike e (λ s1 t1. At (Halted OutOfTurns) s1 t1) (λ s1 t1. refl))
  rounds_alike (suc n) f h s t = ap (λ r. and_then r (λ e. on_again e (rounds n f))) (h s t) ∙ then_alike (f s t) _ (λ e. again_alike e _ (rounds_alike n f h))

  leave_alike : (old : Store) (r : Result) → leave (within b old) r ≡ ended_within b (leave old r)
  leave_alike old (At o s t) = refl

  module _ (w : World) (env : Env) (adds : OnlyAdds env) where
    pub run_anywhere : (a : Act) → Alike b (run w env a)
    run_anywhere (Stop e) s t = refl
    run_anywhere (Fail f) s t = refl
    run_anywhere (Then a next) s t = ap (λ r. and_then r (λ e. run w env (next e))) (run_anywhere a s t) ∙ then_alike (run w env a s t) _ (λ e. run_anywhere (next e))
    run_anywhere (Turn a) s t = turn_alike t s _ (run_anywhere a)
    run_anywhere (Read r) s t = read_root_alike w r s t
    run_anywhere (Write must r v) s t = write_root_alike w must r v s t
    run_anywhere (Resolve a next) s t = run_anywhere (next (resolved s.scope a)) s t
    run_anywhere (AskHost c next) s t = run_anywhere (next (w.host.answer s.calls c)) (record s { calls = s.calls ++ c ∷ [] }) t
    run_anywhere (Invoke a next) s t = ap (λ r. call_then (within b s) r (λ v u. run w env (next v u))) (adds.anywhere a b s t) ∙ call_alike s (env.invoke a s t) _ (λ v u. run_anywhere (next v u))
    run_anywhere (Loop a) s t = rounds_alike env.rounds _ (run_anywhere a) s t
    run_anywhere (Scoped p) s t = leave_alike s (run_all w env p (inside s) t)
