-- An act that does what another does, at every depth.
use Rattle.std.proofs.Common.{◌≡◌, ℕ, List, Option, Some, refl, subst, arith, false}
use Rattle.rhai_base.specs.Value.{Text, Value}
use Rattle.theory_meaning.specs.Act.{EntryKind, IsConstant, is_name, HostCall, Answer, Store, Ending, Stuck, IsStuck, Halted, Result, At, ScriptCall, Act, Then, Turn, Resolve, AskHost, Invoke, Loop, Scoped, Acts, Only, Do, Named, Finish}
use Rattle.theory_meaning.specs.Relations.{Begins, calls_of}
use Rattle.theory_meaning.proofs.Relations.{Follows, short, AnyHalt}
use Rattle.theory_meaning.proofs.Monotone.{follows_refl, follows_trans}
use Rattle.theory_meaning.proofs.Ends.{Run, Met, stuck, Rises, ends_of, met_self, met_trans}
use Rattle.theory_rewriting.specs.Context.{Context}
use Rattle.theory_rewriting.specs.Known.{Known}
use Rattle.theory_rewriting.proofs.Knowing.{KnowsLess}
use Rattle.theory_soundness.proofs.simulation.Agreement.{agrees_knowing_less, holds_knowing_less, knows_none_less}
use Rattle.theory_soundness.proofs.simulation.Setting.{Setting, noted, knowing_fewer, environment, Agreed, Start, run_from, run_all_from, run_by_depth, run_all_by_depth, steady_at, rises}
use Rattle.theory_soundness.proofs.simulation.Matching.{Stage, SimulatesAt, SimulatesAllAt, CallsMatch, calling, at_equal, all_at_equal, at_then, at_turn, at_ask, at_invoke, at_loop, at_do, at_scoped, at_finish, at_only, at_noted, at_refl, all_at_refl, at_resolve, at_beside}

-- the new run in the old one's environment
abbrev pub stage : {k : Context} → Setting k → ℕ → Stage
stage c d = record { depth = d; env = environment c d; steady = steady_at c d }

-- b does what a does
pub record Simulates {k : Context} (c : Setting k) (a b : Act) : Type 0 where
  pub at : (d : ℕ) → SimulatesAt c (stage c d) a b

pub record SimulatesAll {k : Context} (c : Setting k) (p q : Acts) : Type 0 where
  pub at : (d : ℕ) → SimulatesAllAt c (stage c d) p q

-- ---- in turn

-- in another environment at the end
pub along : {k : Context} {c : Setting k} {g : Stage} (p q r : Acts) → SimulatesAll c p q → SimulatesAllAt c g q r → SimulatesAllAt c g p r
along {c = c} {g = g} p q r i h = record {
  matches = λ s t ag. record {
    forward = follows_trans ((i.at g.depth).matches s t ag).forward (h.matches s t ag).forward;
    backward = met_trans (run_all_by_depth c p) (run_all_by_depth c q) s _ (λ n t'. ((i.at n).matches s t' ag).backward) (h.matches s t ag).backward;
  };
}

pub all_trans : {k : Context} {c : Setting k} {p q r : Acts} → SimulatesAll c p q → SimulatesAll c q r → SimulatesAll c p r
all_trans {p = p} {q = q} {r = r} i h = record { at = λ d. along p q r i (h.at d) }

pub simulates_trans : {k : Context} {c : Setting k} {a b e : Act} → Simulates c a b → Simulates c b e → Simulates c a e
simulates_trans {c = c} {a = a} {b = b} i h = record {
  at = λ d. record {
    matches = λ s t ag. record {
      forward = follows_trans ((i.at d).matches s t ag).forward ((h.at d).matches s t ag).forward;
      backward = met_trans (run_by_depth c a) (run_by_depth c b) s _ (λ n t'. ((i.at n).matches s t' ag).backward) ((h.at d).matches s t ag).backward;
    };
  };
}

-- ---- where fewer names are known

pub simulates_knowing_less : {k : Context} {c : Setting k} {ks : List Known} {a b : Act} → KnowsLess ks k.known → Simulates (knowing_fewer ks c) a b → Simulates c a b
simulates_knowing_less i h = record { at = λ d. record { matches = λ s t ag. (h.at d).matches s t (agrees_knowing_less i ag.0, holds_knowing_less i ag.1) } }

pub all_knowing_less : {k : Context} {c : Setting k} {ks : List Known} {p q : Acts} → KnowsLess ks k.known → SimulatesAll (knowing_fewer ks c) p q → SimulatesAll c p q
all_knowing_less i h = record { at = λ d. record { matches = λ s t ag. (h.at d).matches s t ((agrees_knowing_less i ag.0.0, holds_knowing_less i ag.0.1), λ own. knows_none_less i (ag.1 own)) } }

-- ---- the same act

self_match : {k : Context} (c : Setting k) (d : ℕ) → CallsMatch c (stage c d)
self_match c d = record {
  rounds = omega arith;
  calls = λ a s t held. record {
    forward = follows_refl AnyHalt _;
    backward = met_self (calling c.environments.by_depth a) (λ d1 d2 n s1 t1 t1' le lt. (c.environments.deeper d1 d2 n le).invoke a s1 t1 t1' lt) d s t;
  };
}

pub simulates_refl : {k : Context} {c : Setting k} {a : Act} → Simulates c a a
simulates_refl {c = c} {a = a} = record { at = λ d. at_refl a c (stage c d) (self_match c d) }

pub all_refl : {k : Context} {c : Setting k} {p : Acts} → SimulatesAll c p p
all_refl {c = c} {p = p} = record { at = λ d. all_at_refl p c (stage c d) (self_match c d) }

-- ---- the same result

at_depth : {k : Context} (c : Setting k) (d : ℕ) (s : Store) (t : ℕ) → Agreed k s → Start k
at_depth c d s t ag = record { env = environment c d; store = s; turns = t; adds = (steady_at c d).adds; unbroken = c.environments.unbroken d; agrees = ag }

pub simulates_equal : {k : Context} {c : Setting k} {a b : Act} → ((m : Start k) → run_from c m a ≡ run_from c m b) → Simulates c a b
unfolding at_depth
simulates_equal {c = c} h = record { at = λ d. at_equal (λ s t ag. h (at_depth c d s t ag)) }

pub all_equal : {k : Context} {c : Setting k} {p q : Acts} → ((m : Start k) → run_all_from c m p ≡ run_all_from c m q) → SimulatesAll c p q
unfolding at_depth
all_equal {c = c} h = record { at = λ d. all_at_equal (λ s t ag. h (at_depth c d s t ag.0)) }

-- ---- inside acts

pub simulates_then : {k : Context} {c : Setting k} {a b : Act} {next next' : Ending → Act} → Simulates c a b → ((e : Ending) → Simulates c (next e) (next' e)) → Simulates c (Then a next) (Then b next')
simulates_then i h = record { at = λ d. at_then (i.at d) (λ e. (h e).at d) }

pub all_do : {k : Context} {c : Setting k} {a b : Act} {next next' : Ending → Acts} → Simulates c a b → ((e : Ending) → SimulatesAll c (next e) (next' e)) → SimulatesAll c (Do a next) (Do b next')
all_do i h = record { at = λ d. at_do (i.at d) (λ e. (h e).at d) }

pub all_finish : {k : Context} {c : Setting k} {p q : Acts} → SimulatesAll c p q → SimulatesAll c (Finish p) (Finish q)
all_finish i = record { at = λ d. at_finish (i.at d) }

pub all_only : {k : Context} {c : Setting k} {a b : Act} → Simulates c a b → SimulatesAll c (Only a) (Only b)
all_only i = record { at = λ d. at_only (i.at d) }

pub all_noted : {k : Context} {c : Setting k} (x : Text) (o : Option Value) (b : EntryKind) (v : Value) → ((w : Value) → o ≡ Some w → (b ≡ IsConstant) × (v ≡ w)) → {p q : Acts} → SimulatesAll (noted x o c) p q → SimulatesAll c (Named x b v p) (Named x b v q)
all_noted x o b v f i = record { at = λ d. at_noted x o b v f (i.at d) }

pub all_beside : {k : Context} {c : Setting k} (x : Text) (b : EntryKind) (v : Value) → is_name b ≡ false → {p q : Acts} → SimulatesAll c p q → SimulatesAll c (Named x b v p) (Named x b v q)
all_beside x b v e i = record { at = λ d. at_beside x b v e (i.at d) }

pub simulates_scoped : {k : Context} {c : Setting k} {p q : Acts} → SimulatesAll c p q → Simulates c (Scoped p) (Scoped q)
simulates_scoped i = record { at = λ d. at_scoped (i.at d) }

pub simulates_turn : {k : Context} {c : Setting k} {a b : Act} → Simulates c a b → Simulates c (Turn a) (Turn b)
simulates_turn i = record { at = λ d. at_turn (i.at d) }

pub simulates_resolve : {k : Context} {c : Setting k} (a : Text) {next next' : Text → Act} → ((m : Text) → Simulates c (next m) (next' m)) → Simulates c (Resolve a next) (Resolve a next')
simulates_resolve a h = record { at = λ d. at_resolve a (λ m. (h m).at d) }

pub simulates_ask : {k : Context} {c : Setting k} (call : HostCall) {next next' : Answer → Act} → ((a : Answer) → Simulates c (next a) (next' a)) → Simulates c (AskHost call next) (AskHost call next')
simulates_ask call h = record { at = λ d. at_ask call (λ a. (h a).at d) }

pub simulates_invoke : {k : Context} {c : Setting k} (a : ScriptCall) {next next' : Value → Option Value → Act} → ((v : Value) (u : Option Value) → Simulates c (next v u) (next' v u)) → Simulates c (Invoke a next) (Invoke a next')
simulates_invoke {c = c} a h = record { at = λ d. at_invoke a (self_match c d) (λ v u. (h v u).at d) }

pub simulates_loop : {k : Context} {c : Setting k} {a b : Act} → Simulates c a b → Simulates c (Loop a) (Loop b)
simulates_loop i = record { at = λ d. at_loop (omega arith) (i.at d) }

-- ---- the same result, or the old run is stuck, where the new one is free

pub data OrStuck : Result → Result → Type 0 where
  equal : {r : Result} → OrStuck r r
  is_stuck : {s : Store} {r : Result} (f : Stuck) (t : ℕ) → Begins s.calls (calls_of r) → OrStuck (At (Halted (IsStuck f)) s t) r

or_follows : (r r' : Result) → OrStuck r r' → Follows AnyHalt 0 r r'
or_follows r r' equal = follows_refl AnyHalt r
or_follows r r' (is_stuck f t b) = short tt b

or_met : (p : Run) → Rises p → (d : ℕ) (s : Store) (t : ℕ) (r r' : Result) → p d s t ≡ r → OrStuck r r' → Met p s r'
or_met p rises d s t r r' e equal = subst (Met p s) e (met_self p rises d s t)
or_met p rises d s t r r' e (is_stuck {s = s1} f l b) = stuck f s1 (ends_of p rises d s t (Halted (IsStuck f)) s1 l tt e)

pub simulates_or_stuck : {k : Context} {c : Setting k} {a b : Act} → ((m : Start k) → OrStuck (run_from c m a) (run_from c m b)) → Simulates c a b
unfolding at_depth
simulates_or_stuck {c = c} {a = a} h = record {
  at = λ d. record {
    matches = λ s t ag. record {
      forward = or_follows _ _ (h (at_depth c d s t ag));
      backward = or_met (run_by_depth c a) (rises c a) d s t _ _ refl (h (at_depth c d s t ag));
    };
  };
}
