-- At one depth: an act whose runs match those of another. Each basic act keeps this.
use Rattle.std.proofs.Common.{◌≡◌, ℕ, ◌+◌, ◌≤◌, Bool, true, false, ◌&&◌, [], ◌∷◌, ◌++◌, Option, Some, None, refl, sym, ◌∙◌, subst, arith}
use Rattle.rhai_base.specs.Value.{Text, Value}
use Rattle.theory_meaning.specs.Act.{EntryKind, IsConstant, is_name, is_published, resolved, HostCall, Answer, Store, Ending, Outcome, Ended, Result, At, ScriptCall, Act, Stop, Fail, Then, Turn, Read, Write, Resolve, AskHost, Invoke, Loop, Scoped, Acts, Only, Do, Named, Finish, Env, leave, rounds, run, run_all, inside, declared}
use Rattle.theory_meaning.specs.Relations.{store_of}
use Rattle.theory_meaning.proofs.Relations.{Follows, AnyHalt, IsOut}
use Rattle.theory_meaning.proofs.Preserves.{preserves, preserves_all}
use Rattle.theory_meaning.proofs.Monotone.{follow_call, follow_then, follow_turn, follow_returned, follow_leave, follow_rounds, Deeper, monotone, monotone_all, follows_refl, follows_trans}
use Rattle.theory_meaning.proofs.Ends.{met_call, Run, Ends, Met, stays, met_self, met_move, met_then, met_turn, met_leave, met_returned, met_rounds}
use Rattle.theory_meaning.proofs.Globals.{globals_kept}
use Rattle.theory_rewriting.specs.Context.{Context, noting}
use Rattle.theory_rewriting.specs.Known.{Holds}
use Rattle.theory_soundness.proofs.simulation.Agreement.{agrees_keeps, agrees_noting, agrees_beside, holds_noted, holds_published}
use Rattle.theory_soundness.proofs.simulation.Setting.{Setting, world, environment, noted, beneath, Agreed, Listed, run_by_depth, run_all_by_depth, adds_at, rises, rises_all}

-- The result r is what a run p may give: it follows p from this depth and these turns, and p meets it with enough of them.
pub record Matches (p : Run) (d : ℕ) (s : Store) (t : ℕ) (r : Result) : Type 0 where
  pub forward : Follows AnyHalt 0 (p d s t) r
  pub backward : Met p s r

-- the depth of the old run, and the environment of the new one
pub record Stage : Type 0 where
  pub depth : ℕ
  pub env : Env
  pub steady : Deeper AnyHalt tt 0 env env

pub record SimulatesAt {k : Context} (c : Setting k) (g : Stage) (a b : Act) : Type 0 where
  pub matches : (s : Store) (t : ℕ) → Agreed k s → Matches (run_by_depth c a) g.depth s t (run (world c) g.env b s t)

pub record SimulatesAllAt {k : Context} (c : Setting k) (g : Stage) (p q : Acts) : Type 0 where
  pub matches : (s : Store) (t : ℕ) → Listed k s → Matches (run_all_by_depth c p) g.depth s t (run_all (world c) g.env q s t)

-- ---- steps

-- with more turns
later : {k : Context} {c : Setting k} {g : Stage} {a b : Act} → SimulatesAt c g a b → (s : Store) (t t' : ℕ) → Agreed k s → t + 0 ≤ t' → Follows AnyHalt 0 (run_by_depth c a g.depth s t) (run (world c) g.env b s t')
later {c = c} {g = g} {b = b} h s t t' ag le = follows_trans (h.matches s t ag).forward (monotone AnyHalt tt 0 (world c) g.env g.env g.steady b s t t' le)

later_all : {k : Context} {c : Setting k} {g : Stage} {p q : Acts} → SimulatesAllAt c g p q → (s : Store) (t t' : ℕ) → Listed k s → t + 0 ≤ t' → Follows AnyHalt 0 (run_all_by_depth c p g.depth s t) (run_all (world c) g.env q s t')
later_all {c = c} {g = g} {q = q} h s t t' ag le = follows_trans (h.matches s t ag).forward (monotone_all AnyHalt tt 0 (world c) g.env g.env g.steady q s t t' le)

pub stays_known : {k : Context} (c : Setting k) (a : Act) (d : ℕ) (s : Store) (t : ℕ) → Agreed k s → Agreed k (store_of (run_by_depth c a d s t))
stays_known {k} c a d s t ag =
    (agrees_keeps (preserves (world c) (environment c d) (adds_at c d) a s t).scope ag.0, subst (Holds k.known) (sym (globals_kept (world c) (environment c d) a s t).globals) ag.1)

stays_listed : {k : Context} (c : Setting k) (a : Act) (d : ℕ) (s : Store) (t : ℕ) → Listed k s → Listed k (store_of (run_by_depth c a d s t))
stays_listed c a d s t ag = (stays_known c a d s t ag.0, λ h. ag.1 (sym (globals_kept (world c) (environment c d) a s t).own ∙ h))

pub ends_known : {k : Context} (c : Setting k) (a : Act) (s : Store) (o : Outcome) (s1 : Store) → Agreed k s → Ends (run_by_depth c a) s o s1 → Agreed k s1
ends_known {k = k} c a s o s1 ag x =
    let z = x.by x.depth x.turns 0 (omega arith) (omega arith) in
    let P : Result → Type 0 = λ r. Agreed k (store_of r) in
    subst P z.2 (stays_known c a x.depth s x.turns ag)

ends_listed : {k : Context} (c : Setting k) (a : Act) (s : Store) (o : Outcome) (s1 : Store) → Listed k s → Ends (run_by_depth c a) s o s1 → Listed k s1
ends_listed {k = k} c a s o s1 ag x =
    let z = x.by x.depth x.turns 0 (omega arith) (omega arith) in
    let P : Result → Type 0 = λ r. Listed k (store_of r) in
    subst P z.2 (stays_listed c a x.depth s x.turns ag)

-- from one run to another that ends as it does
pub ends_as : {p q : Run} {s s1 : Store} → ((d t : ℕ) → p d s t ≡ q d s1 t) → {o : Outcome} {s' : Store} → Ends p s o s' → Ends q s1 o s'
ends_as {p = p} {q = q} {s = s} {s1 = s1} h {o = o} {s' = s'} x = record {
  depth = x.depth;
  turns = x.turns;
  over = x.over;
  by = λ d t n le lt. subst (λ r. (left : ℕ) × (n ≤ left) × (r ≡ At o s' left)) (h d t) (x.by d t n le lt);
}

-- the same runs from a store
pub matches_as : {p q : Run} {s : Store} → ((d t : ℕ) → q d s t ≡ p d s t) → {d t : ℕ} {r : Result} → Matches p d s t r → Matches q d s t r
matches_as {p = p} {q = q} {s = s} h {d = d} {t = t} {r = r} m = record {
  forward = subst (λ x. Follows AnyHalt 0 x r) (sym (h d t)) m.forward;
  backward = met_move p q s s r (λ o s' x. ends_as (λ d1 t1. sym (h d1 t1)) x) m.backward;
}

-- ---- each basic act

-- the same result
pub at_equal : {k : Context} {c : Setting k} {g : Stage} {a b : Act} → ((s : Store) (t : ℕ) → Agreed k s → run_by_depth c a g.depth s t ≡ run (world c) g.env b s t) → SimulatesAt c g a b
at_equal {c = c} {g = g} {a = a} h = record {
  matches = λ s t ag. record {
    forward = subst (Follows AnyHalt 0 (run_by_depth c a g.depth s t)) (h s t ag) (follows_refl AnyHalt _);
    backward = subst (Met (run_by_depth c a) s) (h s t ag) (met_self (run_by_depth c a) (rises c a) g.depth s t);
  };
}

pub all_at_equal : {k : Context} {c : Setting k} {g : Stage} {p q : Acts} → ((s : Store) (t : ℕ) → Listed k s → run_all_by_depth c p g.depth s t ≡ run_all (world c) g.env q s t) → SimulatesAllAt c g p q
all_at_equal {c = c} {g = g} {p = p} h = record {
  matches = λ s t ag. record {
    forward = subst (Follows AnyHalt 0 (run_all_by_depth c p g.depth s t)) (h s t ag) (follows_refl AnyHalt _);
    backward = subst (Met (run_all_by_depth c p) s) (h s t ag) (met_self (run_all_by_depth c p) (rises_all c p) g.depth s t);
  };
}

pub at_then : {k : Context} {c : Setting k} {g : Stage} {a b : Act} {next next' : Ending → Act} → SimulatesAt c g a b → ((e : Ending) → SimulatesAt c g (next e) (next' e)) → SimulatesAt c g (Then a next) (Then b next')
at_then {k = k} {c = c} {g = g} {a = a} {next = next} {next' = next'} i h = record {
  matches = λ s t ag. record {
    forward = follow_then AnyHalt tt 0 (Agreed k) (i.matches s t ag).forward (stays_known c a g.depth s t ag) _ _
        (λ e s1 t1 t1' q le. later (h e) s1 t1 t1' q le)
        (λ e s1 t1. (preserves (world c) g.env g.steady.adds (next' e) s1 t1).calls);
    backward = met_then (run_by_depth c a) (λ e. run_by_depth c (next e)) _ s _ (i.matches s t ag).backward
        (λ e s1 t1 x. ((h e).matches s1 t1 (ends_known c a s (Ended e) s1 ag x)).backward);
  };
}

pub at_do : {k : Context} {c : Setting k} {g : Stage} {a b : Act} {next next' : Ending → Acts} → SimulatesAt c g a b → ((e : Ending) → SimulatesAllAt c g (next e) (next' e)) → SimulatesAllAt c g (Do a next) (Do b next')
at_do {k = k} {c = c} {g = g} {a = a} {next = next} {next' = next'} i h = record {
  matches = λ s t ag. record {
    forward = follow_then AnyHalt tt 0 (Listed k) (i.matches s t ag.0).forward (stays_listed c a g.depth s t ag) _ _
        (λ e s1 t1 t1' q le. later_all (h e) s1 t1 t1' q le)
        (λ e s1 t1. (preserves_all (world c) g.env g.steady.adds (next' e) s1 t1).calls);
    backward = met_then (run_by_depth c a) (λ e. run_all_by_depth c (next e)) _ s _ (i.matches s t ag.0).backward
        (λ e s1 t1 x. ((h e).matches s1 t1 (ends_listed c a s (Ended e) s1 ag x)).backward);
  };
}

pub at_only : {k : Context} {c : Setting k} {g : Stage} {a b : Act} → SimulatesAt c g a b → SimulatesAllAt c g (Only a) (Only b)
at_only {c = c} {a = a} i = record {
  matches = λ s t ag.
      let z = i.matches s t ag.0 in
      record { forward = z.forward; backward = met_move (run_by_depth c a) (run_all_by_depth c (Only a)) s s _ (λ o s' x. ends_as (λ d t1. refl) x) z.backward };
}

pub at_finish : {k : Context} {c : Setting k} {g : Stage} {p q : Acts} → SimulatesAllAt c g p q → SimulatesAllAt c g (Finish p) (Finish q)
at_finish {c = c} {p = p} i = record {
  matches = λ s t ag. record {
    forward = follow_returned AnyHalt tt 0 (i.matches s t ag).forward;
    backward = met_returned (run_all_by_depth c p) s _ (i.matches s t ag).backward;
  };
}

pub at_turn : {k : Context} {c : Setting k} {g : Stage} {a b : Act} → SimulatesAt c g a b → SimulatesAt c g (Turn a) (Turn b)
at_turn {c = c} {g = g} {a = a} {b = b} i = record {
  matches = λ s t ag. record {
    forward = follow_turn AnyHalt tt 0 s t t (omega arith) _ _ (λ t1 t1' le. later i s t1 t1' ag le) (λ s1 t1. (preserves (world c) g.env g.steady.adds b s1 t1).calls);
    backward = met_turn (run_by_depth c a) _ s t (λ t1. (i.matches s t1 ag).backward);
  };
}

pub own_no : {A : Type 0} → false ≡ true → A
own_no h = cc

first_of : (a b : Bool) → a && b ≡ true → a ≡ true
first_of true b h = refl
first_of false b h = h

pub at_scoped : {k : Context} {c : Setting k} {g : Stage} {p q : Acts} → SimulatesAllAt c g p q → SimulatesAt c g (Scoped p) (Scoped q)
at_scoped {c = c} {p = p} i = record {
  matches = λ s t ag. record {
    forward = follow_leave AnyHalt tt 0 s (i.matches (inside s) t (ag, own_no)).forward;
    backward = met_move (λ d s1 t1. leave s (run_all_by_depth c p d s1 t1)) (run_by_depth c (Scoped p)) (inside s) s _ (λ o s' x. ends_as (λ d t1. refl) x) (met_leave (run_all_by_depth c p) (inside s) s _ (i.matches (inside s) t (ag, own_no)).backward);
  };
}

-- what is known of constants holds behind a declaration
still_holds : (k : Context) (s : Store) (x : Text) (b : EntryKind) (v : Value) → Listed k s → Holds k.known (declared x b v s).globals
still_holds k s x b v ag = holds_published k.known (s.is_own && is_published b) x v s.globals (λ h. ag.1 (first_of s.is_own (is_published b) h)) ag.0.1

-- under a name, of which this is known
pub at_noted : {k : Context} {c : Setting k} {g : Stage} (x : Text) (o : Option Value) (b : EntryKind) (v : Value) → ((w : Value) → o ≡ Some w → (b ≡ IsConstant) × (v ≡ w)) → {p q : Acts} → SimulatesAllAt (noted x o c) g p q → SimulatesAllAt c g (Named x b v p) (Named x b v q)
at_noted {k = k} {c = c} x o b v f {p = p} i = record {
  matches = λ s t ag.
      let s1 = declared x b v s in
      let ag1 : Agreed (noting x o k) s1 = (agrees_noting k.engine.constants k.known s.scope x o b v f ag.0.0, holds_noted k.known s1.globals x o (still_holds k s x b v ag)) in
      let z = i.matches s1 t (ag1, ag.1) in
      record { forward = z.forward; backward = met_move (run_all_by_depth c p) (run_all_by_depth c (Named x b v p)) s1 s _ (λ o s' y. ends_as (λ d t1. refl) y) z.backward };
}

pub at_named : {k : Context} {c : Setting k} {g : Stage} (x : Text) (b : EntryKind) (v : Value) {p q : Acts} → SimulatesAllAt (beneath x c) g p q → SimulatesAllAt c g (Named x b v p) (Named x b v q)
at_named x b v i = at_noted x None b v (λ w h. absurd (let z : None ≡ Some w = h in cc)) i

-- beside an alias or an export
pub at_beside : {k : Context} {c : Setting k} {g : Stage} (x : Text) (b : EntryKind) (v : Value) → is_name b ≡ false → {p q : Acts} → SimulatesAllAt c g p q → SimulatesAllAt c g (Named x b v p) (Named x b v q)
at_beside {k = k} {c = c} x b v e {p = p} i = record {
  matches = λ s t ag.
      let s1 = declared x b v s in
      let z = i.matches s1 t ((agrees_beside k.engine.constants k.known s.scope x b v e ag.0.0, still_holds k s x b v ag), ag.1) in
      record { forward = z.forward; backward = met_move (run_all_by_depth c p) (run_all_by_depth c (Named x b v p)) s1 s _ (λ o s' y. ends_as (λ d t1. refl) y) z.backward };
}

pub at_resolve : {k : Context} {c : Setting k} {g : Stage} (a : Text) {next next' : Text → Act} → ((m : Text) → SimulatesAt c g (next m) (next' m)) → SimulatesAt c g (Resolve a next) (Resolve a next')
at_resolve {c = c} a {next = next} h = record {
  matches = λ s t ag.
      let m = resolved s.scope a in
      let z = (h m).matches s t ag in
      record { forward = z.forward; backward = met_move (run_by_depth c (next m)) (run_by_depth c (Resolve a next)) s s _ (λ o s' x. ends_as (λ d t1. refl) x) z.backward };
}

pub at_ask : {k : Context} {c : Setting k} {g : Stage} (call : HostCall) {next next' : Answer → Act} → ((a : Answer) → SimulatesAt c g (next a) (next' a)) → SimulatesAt c g (AskHost call next) (AskHost call next')
at_ask {c = c} call {next = next} h = record {
  matches = λ s t ag.
      let r = c.host.answer s.calls call in
      let s1 : Store = record s { calls = s.calls ++ call ∷ [] } in
      let z = (h r).matches s1 t ag in
      record { forward = z.forward; backward = met_move (run_by_depth c (next r)) (run_by_depth c (AskHost call next)) s1 s _ (λ o s' x. ends_as (λ d t1. refl) x) z.backward };
}

-- as many rounds as there may be
ends_loop : {k : Context} (c : Setting k) (a : Act) (n : ℕ) (s : Store) (o : Outcome) (s' : Store) → Ends (λ d. rounds n (run_by_depth c a d)) s o s' → Ends (run_by_depth c (Loop a)) s o s'
ends_loop c a n s o s' x = record {
  depth = x.depth + n;
  turns = x.turns;
  over = x.over;
  by = λ d t m le lt.
      let y = x.by d t m (omega arith) lt in
      let up = follow_rounds IsOut tt 0 (λ s. Unit {0}) n (environment c d).rounds (omega (arith, c.environments.reaches d)) (run_by_depth c a d) (run_by_depth c a d) (λ s1 t1 t1' q le1. rises c a d d 0 s1 t1 t1' (omega arith) le1) (λ s1 t1 q. tt) (λ s1 t1. preserves (world c) (environment c d) (adds_at c d) a s1 t1) s t t tt (omega arith) in
      let P : Result → Type 0 = λ r. Follows IsOut 0 r (run_by_depth c (Loop a) d s t) in
      let z = stays 0 o s' y.0 (run_by_depth c (Loop a) d s t) x.over (subst P y.2 up) in
      (z.0, omega (arith, z.1, y.1), z.2);
}

pub at_loop : {k : Context} {c : Setting k} {g : Stage} {a b : Act} → (environment c g.depth).rounds ≤ g.env.rounds → SimulatesAt c g a b → SimulatesAt c g (Loop a) (Loop b)
at_loop {k = k} {c = c} {g = g} {a = a} {b = b} le i = record {
  matches = λ s t ag. record {
    forward = follow_rounds AnyHalt tt 0 (Agreed k) (environment c g.depth).rounds g.env.rounds le _ _
        (λ s1 t1 t1' q le1. later i s1 t1 t1' q le1)
        (λ s1 t1 q. stays_known c a g.depth s1 t1 q)
        (λ s1 t1. preserves (world c) g.env g.steady.adds b s1 t1) s t t ag (omega arith);
    backward = met_move _ (run_by_depth c (Loop a)) s s _ (λ o s' x. ends_loop c a g.env.rounds s o s' x)
        (met_rounds (Agreed k) (run_by_depth c a) _ (λ s1 t1 q. (i.matches s1 t1 q).backward)
        (λ s1 e s2 q x. ends_known c a s1 (Ended e) s2 q x) g.env.rounds s t ag);
  };
}

abbrev pub calling : (ℕ → Env) → ScriptCall → Run
calling F a d s t = (F d).invoke a s t

-- script calls in the new environment match those of the old ones
pub record CallsMatch {k : Context} (c : Setting k) (g : Stage) : Type 0 where
  pub rounds : (environment c g.depth).rounds ≤ g.env.rounds
  pub calls : (a : ScriptCall) (s : Store) (t : ℕ) → Holds k.known s.globals → Matches (calling c.environments.by_depth a) g.depth s t (g.env.invoke a s t)

pub at_invoke : {k : Context} {c : Setting k} {g : Stage} (a : ScriptCall) {next next' : Value → Option Value → Act} → CallsMatch c g → ((v : Value) (u : Option Value) → SimulatesAt c g (next v u) (next' v u)) → SimulatesAt c g (Invoke a next) (Invoke a next')
at_invoke {c = c} {g = g} a {next = next} {next' = next'} m h = record {
  matches = λ s t ag. record {
    forward = follow_call AnyHalt tt 0 s (m.calls a s t ag.1).forward _ _ (λ v u cs t1 t1' le. later (h v u) (record s { calls = cs }) t1 t1' ag le) (λ v u s1 t1. (preserves (world c) g.env g.steady.adds (next' v u) s1 t1).calls);
    backward = met_call (calling c.environments.by_depth a) (λ v u. run_by_depth c (next v u)) _ s _ (m.calls a s t ag.1).backward (λ v u cs t1. ((h v u).matches (record s { calls = cs }) t1 ag).backward);
  };
}

mutual
  -- an act does what it does, in the new environment
  pub at_refl : (a : Act) {k : Context} (c : Setting k) (g : Stage) → CallsMatch c g → SimulatesAt c g a a
  at_refl (Stop e) c g m = at_equal (λ s t ag. refl)
  at_refl (Fail f) c g m = at_equal (λ s t ag. refl)
  at_refl (Then a next) c g m = at_then (at_refl a c g m) (λ e. at_refl (next e) c g m)
  at_refl (Turn a) c g m = at_turn (at_refl a c g m)
  at_refl (Read r) c g m = at_equal (λ s t ag. refl)
  at_refl (Write must r v) c g m = at_equal (λ s t ag. refl)
  at_refl (Resolve a next) c g m = at_resolve a (λ n. at_refl (next n) c g m)
  at_refl (AskHost call next) c g m = at_ask call (λ a. at_refl (next a) c g m)
  at_refl (Invoke a next) c g m = at_invoke a m (λ v u. at_refl (next v u) c g m)
  at_refl (Loop a) c g m = at_loop m.rounds (at_refl a c g m)
  at_refl (Scoped p) c g m = at_scoped (all_at_refl p c g m)

  pub all_at_refl : (p : Acts) {k : Context} (c : Setting k) (g : Stage) → CallsMatch c g → SimulatesAllAt c g p p
  all_at_refl (Only a) c g m = at_only (at_refl a c g m)
  all_at_refl (Do a next) c g m = at_do (at_refl a c g m) (λ e. all_at_refl (next e) c g m)
  all_at_refl (Finish p) c g m = at_finish (all_at_refl p c g m)
  all_at_refl (Named x b v p) c g m = at_named x b v (all_at_refl p (beneath x c) g (record { rounds = m.rounds; calls = λ a s t h. m.calls a s t (record { is = h.is }) }))
