-- Where `this` is not bound, it stays so.
use Rattle.std.proofs.Common.{◌≡◌, ℕ, zero, suc, Bool, true, false, ◌∷◌, [], ◌++◌, List, Option, Some, None}
use Rattle.rhai_base.specs.Value.{Text, Value}
use Rattle.theory_meaning.specs.Act.{is_constant, ScopeEntry, Store, World, Again, Ending, Gives, Leaves, Ended, Halted, Result, At, Root, OfName, OfGlobal, OfThis, Act, Stop, Fail, Then, Turn, Read, Write, Resolve, AskHost, Invoke, Loop, Scoped, Acts, Only, Do, Named, Finish, Env, and_then, with_turn, found, resolved, read, read_global, read_this, read_root, write_at, write, write_global, write_this, write_root, inside, leave, call_then, returned, on_again, rounds, run, run_all}
use Rattle.theory_meaning.specs.Engine.{constant_named}
use Rattle.theory_meaning.specs.Relations.{store_of}

abbrev Unbound : Store → Type 0
Unbound s = s.this ≡ None

abbrev Keeps : (Store → ℕ → Result) → Type 0
Keeps f = (s : Store) (t : ℕ) → Unbound s → Unbound (store_of (f s t))

after_then : (r : Result) (next : Ending → Store → ℕ → Result) → Unbound (store_of r) → ((e : Ending) → Keeps (next e)) → Unbound (store_of (and_then r next))
after_then (At (Ended e) s t) next h k = k e s t h
after_then (At (Halted f) s t) next h k = h

after_turn : (t : ℕ) (s : Store) (next : Store → ℕ → Result) → Unbound s → Keeps next → Unbound (store_of (with_turn t s next))
after_turn zero s next h k = h
after_turn (suc t) s next h k = k s t h

after_again : (e : Ending) (next : Store → ℕ → Result) (s : Store) (t : ℕ) → Unbound s → Unbound (store_of (next s t)) → Unbound (store_of (on_again e next s t))
after_again (Leaves Again) next s t h k = k
after_again e next s t h k = h

after_rounds : (n : ℕ) (round : Store → ℕ → Result) → Keeps round → Keeps (rounds n round)
after_rounds zero round k s t h = after_then (round s t) _ (k s t h) (λ e s1 t1 h1. after_again e _ s1 t1 h1 h1)
after_rounds (suc n) round k s t h = after_then (round s t) _ (k s t h) (λ e s1 t1 h1. after_again e _ s1 t1 h1 (after_rounds n round k s1 t1 h1))

after_read : (o : Option ScopeEntry) (s : Store) (t : ℕ) → Unbound s → Unbound (store_of (read o s t))
after_read None s t h = h
after_read (Some e) s t h = h

after_read_global : (o : Option Value) (s : Store) (t : ℕ) → Unbound s → Unbound (store_of (read_global o s t))
after_read_global None s t h = h
after_read_global (Some v) s t h = h

after_read_this : (o : Option Value) (s : Store) (t : ℕ) → Unbound s → Unbound (store_of (read_this o s t))
after_read_this None s t h = h
after_read_this (Some v) s t h = h

after_read_root : (w : World) (r : Root) → Keeps (read_root w r)
after_read_root w (OfName x) s t h = after_read (found w.engine.constants s.scope x) s t h
after_read_root w (OfGlobal x) s t h = after_read_global (constant_named s.globals x) s t h
after_read_root w OfThis s t h = after_read_this s.this s t h

after_write_at : (must b : Bool) (x : Text) (v : Value) → Keeps (write_at must b x v)
after_write_at true true x v s t h = h
after_write_at false true x v s t h = h
after_write_at must false x v s t h = h

after_write : (must : Bool) (o : Option ScopeEntry) (x : Text) (v : Value) → Keeps (write must o x v)
after_write must None x v s t h = h
after_write must (Some e) x v s t h = after_write_at must (is_constant e.kind) x v s t h

after_write_global : (must : Bool) (o : Option Value) (s : Store) (t : ℕ) → Unbound s → Unbound (store_of (write_global must o s t))
after_write_global must None s t h = h
after_write_global true (Some v) s t h = h
after_write_global false (Some v) s t h = h

after_write_this : (o : Option Value) (v : Value) (s : Store) (t : ℕ) → o ≡ None → Unbound s → Unbound (store_of (write_this o v s t))
after_write_this None v s t e h = h
after_write_this (Some u) v s t e h = cc

after_write_root : (w : World) (must : Bool) (r : Root) (v : Value) → Keeps (write_root w must r v)
after_write_root w must (OfName x) v s t h = after_write must (found w.engine.constants s.scope x) x v s t h
after_write_root w must (OfGlobal x) v s t h = after_write_global must (constant_named s.globals x) s t h
after_write_root w must OfThis v s t h = after_write_this s.this v s t h h

after_call : (old : Store) (r : Result) (next : Value → Option Value → Store → ℕ → Result) → Unbound old → ((v : Value) (u : Option Value) → Keeps (next v u)) → Unbound (store_of (call_then old r next))
after_call old (At (Ended (Gives v)) s t) next h k = k v s.this (record old { calls = s.calls }) t h
after_call old (At (Ended (Leaves x)) s t) next h k = h
after_call old (At (Halted f) s t) next h k = h

after_leave : (old : Store) (r : Result) → Unbound (store_of r) → Unbound (store_of (leave old r))
after_leave old (At o s t) h = h

after_returned : (r : Result) → Unbound (store_of r) → Unbound (store_of (returned r))
after_returned (At o s t) h = h

module _ (w : World) (env : Env) where
  mutual
    pub unbound : (a : Act) → Keeps (run w env a)
    unbound (Stop e) s t h = h
    unbound (Fail f) s t h = h
    unbound (Then a next) s t h = after_then (run w env a s t) _ (unbound a s t h) (λ e. unbound (next e))
    unbound (Turn a) s t h = after_turn t s _ h (unbound a)
    unbound (Read r) s t h = after_read_root w r s t h
    unbound (Write must r v) s t h = after_write_root w must r v s t h
    unbound (Resolve a next) s t h = unbound (next (resolved s.scope a)) s t h
    unbound (AskHost c next) s t h = unbound (next (w.host.answer s.calls c)) (record s { calls = s.calls ++ c ∷ [] }) t h
    unbound (Invoke a next) s t h = after_call s (env.invoke a s t) _ h (λ v u. unbound (next v u))
    unbound (Loop a) s t h = after_rounds env.rounds _ (unbound a) s t h
    unbound (Scoped p) s t h = after_leave s (run_all w env p (inside s) t) (unbound_all p (inside s) t h)

    pub unbound_all : (p : Acts) → Keeps (run_all w env p)
    unbound_all (Only a) s t h = unbound a s t h
    unbound_all (Do a next) s t h = after_then (run w env a s t) _ (unbound a s t h) (λ e. unbound_all (next e))
    unbound_all (Named x c v p) s t h = unbound_all p _ t h
    unbound_all (Finish p) s t h = after_returned (run_all w env p s t) (unbound_all p s t h)
