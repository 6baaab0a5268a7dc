-- An act keeps the constants that functions see, and so does a list of acts that is not the script's own.
use Rattle.std.proofs.Common.{◌≡◌, ℕ, zero, suc, Bool, true, false, ◌&&◌, ◌∷◌, [], ◌++◌, Option, Some, None, refl, ap, ◌∙◌}
use Rattle.rhai_base.specs.Value.{Text, Value}
use Rattle.theory_meaning.specs.Engine.{constant_named}
use Rattle.theory_meaning.specs.Act.{ScopeEntry, is_constant, is_published, resolved, Store, World, Again, Ending, Gives, Leaves, Ended, Halted, Result, At, Root, OfName, OfGlobal, OfThis, Act, Stop, Fail, Then, Turn, Read, Write, Resolve, AskHost, Invoke, Loop, Scoped, Acts, Only, Do, Named, Finish, Env, and_then, with_turn, found, read, read_global, read_this, read_root, write_at, write, write_global, write_this, write_root, published, declared, inside, leave, call_then, returned, on_again, rounds, run, run_all}
use Rattle.theory_meaning.specs.Relations.{store_of}

-- a later store: the constants and the list that is run are the same
pub record SameGlobals (s s' : Store) : Type 0 where
  pub globals : s'.globals ≡ s.globals
  pub own : s'.is_own ≡ s.is_own

same : (s : Store) → SameGlobals s s
same s = record { globals = refl; own = refl }

same_then : (s : Store) (r : Result) → SameGlobals s (store_of r) → (next : Ending → Store → ℕ → Result) → ((e : Ending) (s1 : Store) (t : ℕ) → SameGlobals s1 (store_of (next e s1 t))) → SameGlobals s (store_of (and_then r next))
same_then s (At (Ended e) s1 t) p next h = let q = h e s1 t in record { globals = q.globals ∙ p.globals; own = q.own ∙ p.own }
same_then s (At (Halted f) s1 t) p next h = p

same_turn : (t : ℕ) (s : Store) (next : Store → ℕ → Result) → ((t1 : ℕ) → SameGlobals s (store_of (next s t1))) → SameGlobals s (store_of (with_turn t s next))
same_turn zero s next h = same s
same_turn (suc t) s next h = h t

same_again : (e : Ending) (next : Store → ℕ → Result) (s : Store) (t : ℕ) → SameGlobals s (store_of (next s t)) → SameGlobals s (store_of (on_again e next s t))
same_again (Leaves Again) next s t h = h
same_again e next s t h = same s

same_rounds : (n : ℕ) (r : Store → ℕ → Result) → ((s : Store) (t : ℕ) → SameGlobals s (store_of (r s t))) → (s : Store) (t : ℕ) → SameGlobals s (store_of (rounds n r s t))
same_rounds zero r hr s t = same_then s (r s t) (hr s t) _ (λ e s1 t1. same_again e _ s1 t1 (same s1))
same_rounds (suc n) r hr s t = same_then s (r s t) (hr s t) _ (λ e s1 t1. same_again e _ s1 t1 (same_rounds n r hr s1 t1))

same_read : (o : Option ScopeEntry) (s : Store) (t : ℕ) → SameGlobals s (store_of (read o s t))
same_read None s t = same s
same_read (Some e) s t = same s

same_read_global : (o : Option Value) (s : Store) (t : ℕ) → SameGlobals s (store_of (read_global o s t))
same_read_global None s t = same s
same_read_global (Some v) s t = same s

same_read_this : (o : Option Value) (s : Store) (t : ℕ) → SameGlobals s (store_of (read_this o s t))
same_read_this None s t = same s
same_read_this (Some v) s t = same s

same_read_root : (w : World) (r : Root) (s : Store) (t : ℕ) → SameGlobals s (store_of (read_root w r s t))
same_read_root w (OfName x) s t = same_read (found w.engine.constants s.scope x) s t
same_read_root w (OfGlobal x) s t = same_read_global (constant_named s.globals x) s t
same_read_root w OfThis s t = same_read_this s.this s t

same_write_at : (must c : Bool) (x : Text) (v : Value) (s : Store) (t : ℕ) → SameGlobals s (store_of (write_at must c x v s t))
same_write_at true true x v s t = same s
same_write_at false true x v s t = same s
same_write_at must false x v s t = record { globals = refl; own = refl }

same_write : (must : Bool) (o : Option ScopeEntry) (x : Text) (v : Value) (s : Store) (t : ℕ) → SameGlobals s (store_of (write must o x v s t))
same_write must None x v s t = same s
same_write must (Some e) x v s t = same_write_at must (is_constant e.kind) x v s t

same_write_global : (must : Bool) (o : Option Value) (s : Store) (t : ℕ) → SameGlobals s (store_of (write_global must o s t))
same_write_global must None s t = same s
same_write_global true (Some v) s t = same s
same_write_global false (Some v) s t = same s

same_write_this : (o : Option Value) (v : Value) (s : Store) (t : ℕ) → SameGlobals s (store_of (write_this o v s t))
same_write_this None v s t = same s
same_write_this (Some u) v s t = record { globals = refl; own = refl }

same_write_root : (w : World) (must : Bool) (r : Root) (v : Value) (s : Store) (t : ℕ) → SameGlobals s (store_of (write_root w must r v s t))
same_write_root w must (OfName x) v s t = same_write must (found w.engine.constants s.scope x) x v s t
same_write_root w must (OfGlobal x) v s t = same_write_global must (constant_named s.globals x) s t
same_write_root w must OfThis v s t = same_write_this s.this v s t

same_call : (s : Store) (r : Result) (next : Value → Option Value → Store → ℕ → Result) → ((v : Value) (u : Option Value) (s1 : Store) (t1 : ℕ) → SameGlobals s1 (store_of (next v u s1 t1))) → SameGlobals s (store_of (call_then s r next))
same_call s (At (Ended (Gives v)) s1 t1) next h = let q = h v s1.this (record s { calls = s1.calls }) t1 in record { globals = q.globals; own = q.own }
same_call s (At o s1 t1) next h = record { globals = refl; own = refl }

same_left : (s : Store) (r : Result) → (store_of r).globals ≡ s.globals → SameGlobals s (store_of (leave s r))
same_left s (At o s1 t1) p = record { globals = p; own = refl }

-- of a list that is not the script's own
globals_then : (s : Store) (r : Result) → SameGlobals s (store_of r) → (next : Ending → Store → ℕ → Result) → ((e : Ending) (s1 : Store) (t : ℕ) → s1.is_own ≡ false → (store_of (next e s1 t)).globals ≡ s1.globals) → s.is_own ≡ false → (store_of (and_then r next)).globals ≡ s.globals
globals_then s (At (Ended e) s1 t) p next h is = h e s1 t (p.own ∙ is) ∙ p.globals
globals_then s (At (Halted f) s1 t) p next h is = p.globals

globals_returned : (r : Result) → (store_of (returned r)).globals ≡ (store_of r).globals
globals_returned (At o s t) = refl

module _ (w : World) (env : Env) where
  mutual
    pub globals_kept : (a : Act) (s : Store) (t : ℕ) → SameGlobals s (store_of (run w env a s t))
    globals_kept (Stop e) s t = same s
    globals_kept (Fail h) s t = same s
    globals_kept (Then a next) s t = same_then s (run w env a s t) (globals_kept a s t) _ (λ e s1 t1. globals_kept (next e) s1 t1)
    globals_kept (Turn a) s t = same_turn t s _ (λ t1. globals_kept a s t1)
    globals_kept (Read r) s t = same_read_root w r s t
    globals_kept (Write must r v) s t = same_write_root w must r v s t
    globals_kept (Resolve a next) s t = globals_kept (next (resolved s.scope a)) s t
    globals_kept (AskHost c next) s t =
        let q = globals_kept (next (w.host.answer s.calls c)) (record s { calls = s.calls ++ c ∷ [] }) t in
        record { globals = q.globals; own = q.own }
    globals_kept (Invoke a next) s t = same_call s (env.invoke a s t) _ (λ v u s1 t1. globals_kept (next v u) s1 t1)
    globals_kept (Loop a) s t = same_rounds env.rounds _ (λ s1 t1. globals_kept a s1 t1) s t
    globals_kept (Scoped p) s t = same_left s (run_all w env p (inside s) t) (globals_kept_all p (inside s) t refl)

    pub globals_kept_all : (p : Acts) (s : Store) (t : ℕ) → s.is_own ≡ false → (store_of (run_all w env p s t)).globals ≡ s.globals
    globals_kept_all (Only a) s t is = (globals_kept a s t).globals
    globals_kept_all (Do a next) s t is = globals_then s (run w env a s t) (globals_kept a s t) _ (λ e s1 t1 k. globals_kept_all (next e) s1 t1 k) is
    globals_kept_all (Finish p) s t is = globals_returned (run_all w env p s t) ∙ globals_kept_all p s t is
    globals_kept_all (Named x k v p) s t is =
        globals_kept_all p (declared x k v s) t is ∙ ap (λ b. published (b && is_published k) x v s.globals) is
