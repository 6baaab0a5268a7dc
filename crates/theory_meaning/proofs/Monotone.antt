-- One result follows another: how that passes through each part of a run. More turns and a deeper call.
use Rattle.std.proofs.Common.{ℕ, zero, suc, ◌+◌, ◌≤◌, Bool, true, false, List, [], ◌∷◌, ◌++◌, Option, Some, None, arith}
use Rattle.rhai_base.specs.Value.{Text, Value}
use Rattle.theory_meaning.specs.Engine.{constant_named}
use Rattle.theory_meaning.specs.Act.{ScopeEntry, is_constant, resolved, HostCall, Store, World, Again, Ending, Gives, Leaves, Halt, OutOfTurns, Ended, Halted, Result, At, Root, OfName, OfGlobal, OfThis, ScriptCall, Act, Stop, Fail, Then, Turn, Read, Write, Resolve, AskHost, Invoke, Loop, Scoped, Acts, Only, Do, Named, Finish, Env, and_then, with_turn, found, read, read_global, read_this, read_root, write_at, write, write_global, write_this, write_root, leave, call_then, returned, on_again, rounds, run, run_all}
use Rattle.theory_meaning.specs.Relations.{Begins, here, calls_of, store_of}
use Rattle.theory_meaning.proofs.Relations.{Follows, same, short, AnyHalt, IsOut, Keeps}
use Rattle.theory_meaning.proofs.Preserves.{begins_trans, After, after_same, preserves_on_again, preserves_rounds, OnlyAdds, preserves, preserves_all}

abbrev pub Action : Type 0
Action = Store → ℕ → Result

begins_then : (r : Result) (next : Ending → Action) → ((e : Ending) (s : Store) (t : ℕ) → Begins s.calls (calls_of (next e s t))) → Begins (calls_of r) (calls_of (and_then r next))
begins_then (At (Ended e) s t) next h = h e s t
begins_then (At (Halted f) s t) next h = here

begins_call : (old : Store) (r : Result) (next : Value → Option Value → Action) → ((v : Value) (u : Option Value) (s : Store) (t : ℕ) → Begins s.calls (calls_of (next v u s t))) → Begins (calls_of r) (calls_of (call_then old r next))
begins_call old (At (Ended (Gives v)) s t) next h = h v s.this (record old { calls = s.calls }) t
begins_call old (At o s t) next h = here

module _ (U : Halt → Type 0) (out : U OutOfTurns) (k : ℕ) where
  pub follow_then : {r r' : Result} (Q : Store → Type 0) → Follows U k r r' → Q (store_of r) → (next next' : Ending → Action) → ((e : Ending) (s : Store) (t t' : ℕ) → Q s → t + k ≤ t' → Follows U k (next e s t) (next' e s t')) → ((e : Ending) (s : Store) (t : ℕ) → Begins s.calls (calls_of (next' e s t))) → Follows U k (and_then r next) (and_then r' next')
  follow_then Q (same {o = Ended e} {st = s} {t = t} {t' = t'} le) q next next' h g = h e s t t' q le
  follow_then Q (same {o = Halted f} le) q next next' h g = same le
  follow_then Q (short {r = r'} u p) q next next' h g = short u (begins_trans p (begins_then r' next' g))

  pub follow_call : {r r' : Result} (old : Store) → Follows U k r r' → (next next' : Value → Option Value → Action) → ((v : Value) (u : Option Value) (cs : List HostCall) (t t' : ℕ) → t + k ≤ t' → Follows U k (next v u (record old { calls = cs }) t) (next' v u (record old { calls = cs }) t')) → ((v : Value) (u : Option Value) (s : Store) (t : ℕ) → Begins s.calls (calls_of (next' v u s t))) → Follows U k (call_then old r next) (call_then old r' next')
  follow_call old (same {o = Ended (Gives v)} {st = s} {t = t} {t' = t'} le) next next' h g = h v s.this s.calls t t' le
  follow_call old (same le) next next' h g = same le
  follow_call old (short {r = r'} u p) next next' h g = short u (begins_trans p (begins_call old r' next' g))

  pub follow_turn : (s : Store) (t t' : ℕ) → t + k ≤ t' → (next next' : Action) → ((t1 t1' : ℕ) → t1 + k ≤ t1' → Follows U k (next s t1) (next' s t1')) → ((s1 : Store) (t1 : ℕ) → Begins s1.calls (calls_of (next' s1 t1))) → Follows U k (with_turn t s next) (with_turn t' s next')
  follow_turn s zero zero le next next' h g = same le
  follow_turn s zero (suc t') le next next' h g = short out (g s t')
  follow_turn s (suc t) zero le next next' h g = absurd (omega arith)
  follow_turn s (suc t) (suc t') le next next' h g = h t t' (omega arith)

  follow_on_again : (e : Ending) (next next' : Action) (s : Store) (t t' : ℕ) → t + k ≤ t' → Follows U k (next s t) (next' s t') → Follows U k (on_again e next s t) (on_again e next' s t')
  follow_on_again (Leaves Again) next next' s t t' le h = h
  follow_on_again e next next' s t t' le h = same le

  pub follow_leave : (old : Store) {r r' : Result} → Follows U k r r' → Follows U k (leave old r) (leave old r')
  follow_leave old (same le) = same le
  follow_leave old (short {r = At o s t} u p) = short u p

  pub follow_returned : {r r' : Result} → Follows U k r r' → Follows U k (returned r) (returned r')
  follow_returned (same le) = same le
  follow_returned (short {r = At o s t} u p) = short u p

  follow_read : (o : Option ScopeEntry) (s : Store) (t t' : ℕ) → t + k ≤ t' → Follows U k (read o s t) (read o s t')
  follow_read None s t t' le = same le
  follow_read (Some e) s t t' le = same le

  follow_read_global : (o : Option Value) (s : Store) (t t' : ℕ) → t + k ≤ t' → Follows U k (read_global o s t) (read_global o s t')
  follow_read_global None s t t' le = same le
  follow_read_global (Some v) s t t' le = same le

  follow_read_this : (o : Option Value) (s : Store) (t t' : ℕ) → t + k ≤ t' → Follows U k (read_this o s t) (read_this o s t')
  follow_read_this None s t t' le = same le
  follow_read_this (Some v) s t t' le = same le

  follow_read_root : (w : World) (r : Root) (s : Store) (t t' : ℕ) → t + k ≤ t' → Follows U k (read_root w r s t) (read_root w r s t')
  follow_read_root w (OfName x) s t t' le = follow_read (found w.engine.constants s.scope x) s t t' le
  follow_read_root w (OfGlobal x) s t t' le = follow_read_global (constant_named s.globals x) s t t' le
  follow_read_root w OfThis s t t' le = follow_read_this s.this s t t' le

  follow_write_at : (must b : Bool) (x : Text) (v : Value) (s : Store) (t t' : ℕ) → t + k ≤ t' → Follows U k (write_at must b x v s t) (write_at must b x v s t')
  follow_write_at true true x v s t t' le = same le
  follow_write_at false true x v s t t' le = same le
  follow_write_at must false x v s t t' le = same le

  follow_write : (must : Bool) (o : Option ScopeEntry) (x : Text) (v : Value) (s : Store) (t t' : ℕ) → t + k ≤ t' → Follows U k (write must o x v s t) (write must o x v s t')
  follow_write must None x v s t t' le = same le
  follow_write must (Some e) x v s t t' le = follow_write_at must (is_constant e.kind) x v s t t' le

  follow_write_global : (must : Bool) (o : Option Value) (s : Store) (t t' : ℕ) → t + k ≤ t' → Follows U k (write_global must o s t) (write_global must o s t')
  follow_write_global must None s t t' le = same le
  follow_write_global true (Some v) s t t' le = same le
  follow_write_global false (Some v) s t t' le = same le

  follow_write_this : (o : Option Value) (v : Value) (s : Store) (t t' : ℕ) → t + k ≤ t' → Follows U k (write_this o v s t) (write_this o v s t')
  follow_write_this None v s t t' le = same le
  follow_write_this (Some u) v s t t' le = same le

  follow_write_root : (w : World) (must : Bool) (r : Root) (v : Value) (s : Store) (t t' : ℕ) → t + k ≤ t' → Follows U k (write_root w must r v s t) (write_root w must r v s t')
  follow_write_root w must (OfName x) v s t t' le = follow_write must (found w.engine.constants s.scope x) x v s t t' le
  follow_write_root w must (OfGlobal x) v s t t' le = follow_write_global must (constant_named s.globals x) s t t' le
  follow_write_root w must OfThis v s t t' le = follow_write_this s.this v s t t' le

  abbrev Rising : Action → Action → Type 0
  Rising a b = (s : Store) (t t' : ℕ) → t + k ≤ t' → Follows U k (a s t) (b s t')

  abbrev Adding : Action → Type 0
  Adding a = (s : Store) (t : ℕ) → After Keeps s (store_of (a s t))

  -- where Q holds of the store, and goes on to hold
  pub follow_rounds : (Q : Store → Type 0) (n n' : ℕ) → n ≤ n' → (r r' : Action) → ((s : Store) (t t' : ℕ) → Q s → t + k ≤ t' → Follows U k (r s t) (r' s t')) → ((s : Store) (t : ℕ) → Q s → Q (store_of (r s t))) → Adding r' → (s : Store) (t t' : ℕ) → Q s → t + k ≤ t' → Follows U k (rounds n r s t) (rounds n' r' s t')
  follow_rounds Q zero zero le r r' h qr ar s t t' q lt =
      follow_then Q (h s t t' q lt) (qr s t q) _ _
      (λ e s1 t1 t1' q1 lt1. follow_on_again e _ _ s1 t1 t1' lt1 (same lt1))
      (λ e s1 t1. (preserves_on_again e _ s1 t1 (after_same s1)).calls)
  follow_rounds Q zero (suc n') le r r' h qr ar s t t' q lt =
      follow_then Q (h s t t' q lt) (qr s t q) _ _
      (λ e s1 t1 t1' q1 lt1. follow_on_again e _ _ s1 t1 t1' lt1 (short out (preserves_rounds n' r' ar s1 t1').calls))
      (λ e s1 t1. (preserves_on_again e _ s1 t1 (preserves_rounds n' r' ar s1 t1)).calls)
  follow_rounds Q (suc n) zero le r r' h qr ar s t t' q lt = absurd (omega arith)
  follow_rounds Q (suc n) (suc n') le r r' h qr ar s t t' q lt =
      follow_then Q (h s t t' q lt) (qr s t q) _ _
      (λ e s1 t1 t1' q1 lt1. follow_on_again e _ _ s1 t1 t1' lt1 (follow_rounds Q n n' (omega arith) r r' h qr ar s1 t1 t1' q1 lt1))
      (λ e s1 t1. (preserves_on_again e _ s1 t1 (preserves_rounds n' r' ar s1 t1)).calls)

  -- the second environment goes as deep and deeper
  pub record Deeper (env env' : Env) : Type 0 where
    pub rounds : env.rounds ≤ env'.rounds
    pub invoke : (a : ScriptCall) (s : Store) (t t' : ℕ) → t + k ≤ t' → Follows U k (env.invoke a s t) (env'.invoke a s t')
    pub adds : OnlyAdds env'

  module _ (w : World) (env env' : Env) (deep : Deeper env env') where
    mutual
      pub monotone : (a : Act) → Rising (run w env a) (run w env' a)
      monotone (Stop e) s t t' le = same le
      monotone (Fail h) s t t' le = same le
      monotone (Then a next) s t t' le =
          follow_then (λ s. Unit {0}) (monotone a s t t' le) tt _ _ (λ e s1 t1 t1' q le1. monotone (next e) s1 t1 t1' le1) (λ e s1 t1. (preserves w env' deep.adds (next e) s1 t1).calls)
      monotone (Turn a) s t t' le = follow_turn s t t' le _ _ (λ t1 t1' le1. monotone a s t1 t1' le1) (λ s1 t1. (preserves w env' deep.adds a s1 t1).calls)
      monotone (Read r) s t t' le = follow_read_root w r s t t' le
      monotone (Write must r v) s t t' le = follow_write_root w must r v s t t' le
      monotone (Resolve a next) s t t' le = monotone (next (resolved s.scope a)) s t t' le
      monotone (AskHost c next) s t t' le = monotone (next (w.host.answer s.calls c)) (record s { calls = s.calls ++ c ∷ [] }) t t' le
      monotone (Invoke a next) s t t' le = follow_call s (deep.invoke a s t t' le) _ _ (λ v u cs t1 t1' le1. monotone (next v u) _ t1 t1' le1) (λ v u s1 t1. (preserves w env' deep.adds (next v u) s1 t1).calls)
      monotone (Loop a) s t t' le = follow_rounds (λ s. Unit {0}) env.rounds env'.rounds deep.rounds _ _ (λ s1 t1 t1' q le1. monotone a s1 t1 t1' le1) (λ s1 t1 q. tt) (λ s1 t1. preserves w env' deep.adds a s1 t1) s t t' tt le
      monotone (Scoped p) s t t' le = follow_leave s (monotone_all p _ t t' le)

      pub monotone_all : (p : Acts) → Rising (run_all w env p) (run_all w env' p)
      monotone_all (Only a) s t t' le = monotone a s t t' le
      monotone_all (Do a next) s t t' le =
          follow_then (λ s. Unit {0}) (monotone a s t t' le) tt _ _ (λ e s1 t1 t1' q le1. monotone_all (next e) s1 t1 t1' le1) (λ e s1 t1. (preserves_all w env' deep.adds (next e) s1 t1).calls)
      monotone_all (Finish p) s t t' le = follow_returned (monotone_all p s t t' le)
      monotone_all (Named x c v p) s t t' le = monotone_all p _ t t' le

pub follows_begins : {U : Halt → Type 0} {k : ℕ} {r r' : Result} → Follows U k r r' → Begins (calls_of r) (calls_of r')
follows_begins (same le) = here
follows_begins (short u p) = p

pub follows_refl : (U : Halt → Type 0) (r : Result) → Follows U 0 r r
follows_refl U (At o s t) = same (omega arith)

pub follows_trans : {U : Halt → Type 0} {r r' r2 : Result} → Follows U 0 r r' → Follows U 0 r' r2 → Follows U 0 r r2
follows_trans (same le) (same le') = same (omega arith)
follows_trans (same le) (short u p) = short u p
follows_trans (short u p) q = short u (begins_trans p (follows_begins q))

pub follows_weak : {k : ℕ} {r r' : Result} → Follows IsOut k r r' → Follows AnyHalt 0 r r'
follows_weak (same le) = same (omega arith)
follows_weak (short u p) = short tt p
