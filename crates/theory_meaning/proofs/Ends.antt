-- A run that ends, with enough depth and turns.
use Rattle.std.proofs.Common.{List, ◌≡◌, ℕ, zero, suc, ◌+◌, ◌≤◌, Option, refl, ap, ◌∙◌, subst, arith}
use Rattle.rhai_base.specs.Value.{Value}
use Rattle.theory_meaning.specs.Act.{HostCall, Store, Returns, Throws, Again, Ending, Gives, Leaves, Halt, IsStuck, Stuck, OutOfTurns, Outcome, Ended, Halted, Result, At, and_then, with_turn, leave, restore, call_then, returned_outcome, returned, on_again, rounds}
use Rattle.theory_meaning.proofs.Relations.{Follows, same, short, IsOut}
use Rattle.theory_meaning.proofs.Monotone.{Action}

-- what is run at a depth
abbrev pub Run : Type 0
Run = ℕ → Action

abbrev pub Over : Outcome → Type 0
Over (Ended e) = Unit {0}
Over (Halted (IsStuck f)) = Unit {0}
Over (Halted OutOfTurns) = ⊥

-- from some depth and turns on, with as many turns more left
pub record Ends (p : Run) (s : Store) (o : Outcome) (s' : Store) : Type 0 where
  pub depth : ℕ
  pub turns : ℕ
  pub over : Over o
  pub by : (d t n : ℕ) → depth ≤ d → turns + n ≤ t → (left : ℕ) × (n ≤ left) × (p d s t ≡ At o s' left)

-- a result of the new run is met by the old one
pub data Met (p : Run) (s : Store) : Result → Type 0 where
  out : {s' : Store} {t : ℕ} → Met p s (At (Halted OutOfTurns) s' t)
  ended : {o : Outcome} {s' : Store} {t : ℕ} → Ends p s o s' → Met p s (At o s' t)
  stuck : {r : Result} (f : Stuck) (s' : Store) → Ends p s (Halted (IsStuck f)) s' → Met p s r

-- deeper and with more turns a run that ended stays
abbrev pub Rises : Run → Type 0
Rises p = (d d' n : ℕ) (s : Store) (t t' : ℕ) → d ≤ d' → t + n ≤ t' → Follows IsOut n (p d s t) (p d' s t')

pub stays : (n : ℕ) (o : Outcome) (s : Store) (t : ℕ) (r : Result) → Over o → Follows IsOut n (At o s t) r → (left : ℕ) × (t + n ≤ left) × (r ≡ At o s left)
stays n (Ended e) s t r over (same {t' = t'} le) = (t', le, refl)
stays n (Halted (IsStuck f)) s t r over (same {t' = t'} le) = (t', le, refl)
stays n (Halted (IsStuck f)) s t r over (short u p) = absurd u
stays n (Halted OutOfTurns) s t r over q = absurd over

pub ends_of : (p : Run) → Rises p → (d : ℕ) (s : Store) (t : ℕ) (o : Outcome) (s' : Store) (l : ℕ) → Over o → p d s t ≡ At o s' l → Ends p s o s'
ends_of p rises d s t o s' l over e = record {
  depth = d;
  turns = t;
  over = over;
  by = λ d' t' n le lt.
      let q = stays n o s' l (p d' s t') over (subst (λ r. Follows IsOut n r (p d' s t')) e (rises d d' n s t t' le lt)) in
      (q.0, omega (arith, q.1), q.2);
}

met_result : (p : Run) → Rises p → (d : ℕ) (s : Store) (t : ℕ) (r : Result) → p d s t ≡ r → Met p s r
met_result p rises d s t (At (Ended e) s' l) eq = ended (ends_of p rises d s t (Ended e) s' l tt eq)
met_result p rises d s t (At (Halted (IsStuck f)) s' l) eq = ended (ends_of p rises d s t (Halted (IsStuck f)) s' l tt eq)
met_result p rises d s t (At (Halted OutOfTurns) s' l) eq = out

pub met_self : (p : Run) → Rises p → (d : ℕ) (s : Store) (t : ℕ) → Met p s (p d s t)
met_self p rises d s t = met_result p rises d s t (p d s t) refl

-- from the ends of one run to those of another
pub met_move : (p q : Run) (s s1 : Store) (r : Result) → ((o : Outcome) (s' : Store) → Ends p s o s' → Ends q s1 o s') → Met p s r → Met q s1 r
met_move p q s s1 r h out = out
met_move p q s s1 r h (ended e) = ended (h _ _ e)
met_move p q s s1 r h (stuck f s' e) = stuck f s' (h _ _ e)

-- the number of turns left is no part of it
met_turns : (p : Run) (s s' : Store) (o : Outcome) (t t' : ℕ) → Met p s (At o s' t) → Met p s (At o s' t')
met_turns p s s' o t t' out = out
met_turns p s s' o t t' (ended e) = ended e
met_turns p s s' o t t' (stuck f s2 e) = stuck f s2 e

met_stuck : (p : Run) (s s' : Store) (f : Stuck) (t : ℕ) (r : Result) → Met p s (At (Halted (IsStuck f)) s' t) → Met p s r
met_stuck p s s' f t r (ended e) = stuck f s' e
met_stuck p s s' f t r (stuck f' s2 e) = stuck f' s2 e

met_of : (p q : Run) (s : Store) → ((d t : ℕ) → Met p s (q d s t)) → (o : Outcome) (s' : Store) (x : Ends q s o s') → (left : ℕ) × Met p s (At o s' left)
met_of p q s h o s' x =
    let w = x.by x.depth x.turns 0 (omega arith) (omega arith) in
    (w.0, subst (Met p s) w.2 (h x.depth x.turns))

pub met_trans : (p q : Run) (s : Store) (r : Result) → ((d t : ℕ) → Met p s (q d s t)) → Met q s r → Met p s r
met_trans p q s r h out = out
met_trans p q s r h (ended {o = o} {s' = s'} e) = let w = met_of p q s h o s' e in met_turns p s s' o w.0 _ w.1
met_trans p q s r h (stuck f s' e) = let w = met_of p q s h (Halted (IsStuck f)) s' e in met_stuck p s s' f w.0 r w.1

-- one run, and then another
abbrev pub then_run : Run → (Ending → Run) → Run
then_run p next d s t = and_then (p d s t) (λ e. next e d)

ends_then : (p : Run) (next : Ending → Run) (s : Store) (e : Ending) (s1 : Store) (o : Outcome) (s2 : Store) → Ends p s (Ended e) s1 → Ends (next e) s1 o s2 → Ends (then_run p next) s o s2
ends_then p next s e s1 o s2 x y = record {
  depth = x.depth + y.depth;
  turns = x.turns + y.turns;
  over = y.over;
  by = λ d t n le lt.
      let a = x.by d t (y.turns + n) (omega arith) (omega arith) in
      let b = y.by d a.0 n (omega arith) (omega (arith, a.1)) in
      (b.0, b.1, ap (λ r. and_then r (λ e. next e d)) a.2 ∙ b.2);
}

ends_halted : (p : Run) (next : Ending → Run) (s : Store) (h : Halt) (s1 : Store) → Ends p s (Halted h) s1 → Ends (then_run p next) s (Halted h) s1
ends_halted p next s h s1 x = record {
  depth = x.depth;
  turns = x.turns;
  over = x.over;
  by = λ d t n le lt. let a = x.by d t n le lt in (a.0, a.1, ap (λ r. and_then r (λ e. next e d)) a.2);
}

pub met_then : (p : Run) (next : Ending → Run) (next' : Ending → Action) (s : Store) (r : Result) → Met p s r → ((e : Ending) (s1 : Store) (t1 : ℕ) → Ends p s (Ended e) s1 → Met (next e) s1 (next' e s1 t1)) → Met (then_run p next) s (and_then r next')
met_then p next next' s r out h = out
met_then p next next' s r (ended {o = Ended e} {s' = s1} {t = t1} x) h =
    met_move (next e) (then_run p next) s1 s _ (λ o s2 y. ends_then p next s e s1 o s2 x y) (h e s1 t1 x)
met_then p next next' s r (ended {o = Halted f} {s' = s1} x) h = ended (ends_halted p next s f s1 x)
met_then p next next' s r (stuck f s1 x) h = stuck f s1 (ends_halted p next s (IsStuck f) s1 x)

-- a script call, and what comes after
abbrev pub call_run : Run → (Value → Option Value → Run) → Run
call_run p next d s t = call_then s (p d s t) (λ v u. next v u d)

ends_call : (p : Run) (next : Value → Option Value → Run) (s : Store) (v : Value) (s1 : Store) (o : Outcome) (s2 : Store) → Ends p s (Ended (Gives v)) s1 → Ends (next v s1.this) (record s { calls = s1.calls }) o s2 → Ends (call_run p next) s o s2
ends_call p next s v s1 o s2 x y = record {
  depth = x.depth + y.depth;
  turns = x.turns + y.turns;
  over = y.over;
  by = λ d t n le lt.
      let a = x.by d t (y.turns + n) (omega arith) (omega arith) in
      let b = y.by d a.0 n (omega arith) (omega (arith, a.1)) in
      (b.0, b.1, ap (λ r. call_then s r (λ v u. next v u d)) a.2 ∙ b.2);
}

ends_call_stops : (p : Run) (next : Value → Option Value → Run) (s : Store) (o : Outcome) (s1 s2 : Store) → ((d l : ℕ) → call_then s (At o s1 l) (λ v u. next v u d) ≡ At o s2 l) → Ends p s o s1 → Ends (call_run p next) s o s2
ends_call_stops p next s o s1 s2 e x = record {
  depth = x.depth;
  turns = x.turns;
  over = x.over;
  by = λ d t n le lt. let a = x.by d t n le lt in (a.0, a.1, ap (λ r. call_then s r (λ v u. next v u d)) a.2 ∙ e d a.0);
}

pub met_call : (p : Run) (next : Value → Option Value → Run) (next' : Value → Option Value → Action) (s : Store) (r : Result) → Met p s r → ((v : Value) (u : Option Value) (cs : List HostCall) (t1 : ℕ) → Met (next v u) (record s { calls = cs }) (next' v u (record s { calls = cs }) t1)) → Met (call_run p next) s (call_then s r next')
met_call p next next' s r out h = out
met_call p next next' s r (ended {o = Ended (Gives v)} {s' = s1} {t = t1} x) h =
    met_move (next v s1.this) (call_run p next) (record s { calls = s1.calls }) s _ (λ o s2 y. ends_call p next s v s1 o s2 x y) (h v s1.this s1.calls t1)
met_call p next next' s r (ended {s' = s1} x) h = ended (ends_call_stops p next s _ s1 _ (λ d l. refl) x)
met_call p next next' s r (stuck f s1 x) h = stuck f (record s { calls = s1.calls }) (ends_call_stops p next s _ s1 _ (λ d l. refl) x)

-- a turn
ends_turn_at : (p : Run) (s : Store) (o : Outcome) (s' : Store) → Ends p s o s' → (turns : ℕ) (d t n : ℕ) → ((t' : ℕ) → turns + n ≤ t' → (left : ℕ) × (n ≤ left) × (p d s t' ≡ At o s' left)) → suc turns + n ≤ t → (left : ℕ) × (n ≤ left) × (with_turn t s (p d) ≡ At o s' left)
ends_turn_at p s o s' x turns d zero n h lt = absurd (omega arith)
ends_turn_at p s o s' x turns d (suc t) n h lt = h t (omega arith)

pub ends_turn : (p : Run) (s : Store) (o : Outcome) (s' : Store) → Ends p s o s' → Ends (λ d s t. with_turn t s (p d)) s o s'
ends_turn p s o s' x = record {
  depth = x.depth;
  turns = suc x.turns;
  over = x.over;
  by = λ d t n le lt. ends_turn_at p s o s' x x.turns d t n (λ t' lt'. x.by d t' n le lt') lt;
}

pub met_turn : (p : Run) (next : Action) (s : Store) (t : ℕ) → ((t1 : ℕ) → Met p s (next s t1)) → Met (λ d s t. with_turn t s (p d)) s (with_turn t s next)
met_turn p next s zero h = out
met_turn p next s (suc t) h = met_move p _ s s (next s t) (λ o s' x. ends_turn p s o s' x) (h t)

-- names are taken away at the end
ends_leave : (p : Run) (s old : Store) (o : Outcome) (s' : Store) → Ends p s o s' → Ends (λ d s t. leave old (p d s t)) s o (record s' { scope = restore old.scope s'.scope; is_own = old.is_own })
ends_leave p s old o s' x = record {
  depth = x.depth;
  turns = x.turns;
  over = x.over;
  by = λ d t n le lt. let a = x.by d t n le lt in (a.0, a.1, ap (leave old) a.2);
}

pub met_leave : (p : Run) (s old : Store) (r : Result) → Met p s r → Met (λ d s t. leave old (p d s t)) s (leave old r)
met_leave p s old r out = out
met_leave p s old r (ended {o = o} {s' = s'} x) = ended (ends_leave p s old o s' x)
met_leave p s old r (stuck g s' x) = stuck g _ (ends_leave p s old _ s' x)

-- a return is its value
over_returned : (o : Outcome) → Over o → Over (returned_outcome o)
over_returned (Ended (Leaves (Returns v))) h = tt
over_returned (Ended (Leaves (Throws v))) h = tt
over_returned (Ended (Leaves x)) h = tt
over_returned (Ended (Gives v)) h = tt
over_returned (Halted f) h = h

ends_returned : (p : Run) (s : Store) (o : Outcome) (s' : Store) → Ends p s o s' → Ends (λ d s t. returned (p d s t)) s (returned_outcome o) s'
ends_returned p s o s' x = record {
  depth = x.depth;
  turns = x.turns;
  over = over_returned o x.over;
  by = λ d t n le lt. let a = x.by d t n le lt in (a.0, a.1, ap returned a.2);
}

pub met_returned : (p : Run) (s : Store) (r : Result) → Met p s r → Met (λ d s t. returned (p d s t)) s (returned r)
met_returned p s r out = out
met_returned p s r (ended {o = o} {s' = s'} x) = ended (ends_returned p s o s' x)
met_returned p s r (stuck f s' x) = stuck f s' (ends_returned p s (Halted (IsStuck f)) s' x)

-- nothing more
met_now : (o : Outcome) (s : Store) (t : ℕ) → Over o → Met (λ d s t. At o s t) s (At o s t)
met_now o s t over = ended (record { depth = 0; turns = 0; over = over; by = λ d t n le lt. (t, omega arith, refl) })

met_on_again : (e : Ending) (p : Run) (next : Action) (s : Store) (t : ℕ) → Met p s (next s t) → Met (λ d. on_again e (p d)) s (on_again e next s t)
met_on_again (Leaves Again) p next s t h = h
met_on_again e p next s t h = met_now _ s t tt

-- a number of rounds
pub met_rounds : (Q : Store → Type 0) (p : Run) (p' : Action) → ((s : Store) (t : ℕ) → Q s → Met p s (p' s t)) → ((s : Store) (e : Ending) (s1 : Store) → Q s → Ends p s (Ended e) s1 → Q s1) → (n : ℕ) (s : Store) (t : ℕ) → Q s → Met (λ d. rounds n (p d)) s (rounds n p' s t)
met_rounds Q p p' h k zero s t q = met_then p _ _ s (p' s t) (h s t q) (λ e s1 t1 x. met_on_again e _ _ s1 t1 out)
met_rounds Q p p' h k (suc n) s t q =
    met_then p _ _ s (p' s t) (h s t q) (λ e s1 t1 x. met_on_again e _ _ s1 t1 (met_rounds Q p p' h k n s1 t1 (k s e s1 q x)))
