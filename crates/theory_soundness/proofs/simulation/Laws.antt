-- The laws of acts one after another, as simulations. A pure act whose value isn't needed may go.
use Rattle.std.proofs.Common.{◌≡◌, ℕ, zero, suc, Bool, true, false, Option, Some, None, refl, sym, ap, ◌∙◌, arith}
use Rattle.rhai_base.specs.Value.{Value, UnitV}
use Rattle.theory_meaning.specs.Act.{World, Store, Ending, Gives, Stuck, IsStuck, Ended, Halted, Act, Fail, Then, Turn, Scoped, Only, Env, and_then, with_turn, leave, run, inside}
use Rattle.theory_meaning.specs.ActForms.{give, unit, ◌>>=◌, truth, branch, if_true, then_line}
use Rattle.theory_meaning.specs.Laws.{Settled, Gave, Stopped, settled, spend}
use Rattle.theory_meaning.proofs.Relations.{Follows, short, AnyHalt}
use Rattle.theory_meaning.proofs.Monotone.{monotone, follows_trans}
use Rattle.theory_meaning.proofs.Ends.{met_move, ends_turn}
use Rattle.theory_meaning.proofs.Preserves.{OnlyAdds, preserves}
use Rattle.theory_meaning.proofs.PureActs.{Pure, Calm, calm_of}
use Rattle.theory_meaning.proofs.Sequencing.{bind_unit, bind_assoc, line_unit, scoped_only, leave_same}
use Rattle.theory_rewriting.specs.Context.{Context}
use Rattle.theory_soundness.proofs.simulation.Setting.{Setting, Agreed, world, environment, run_by_depth, adds_at, steady_at}
use Rattle.theory_soundness.proofs.simulation.Matching.{Matches, SimulatesAt, ends_as, matches_as}
use Rattle.theory_soundness.proofs.simulation.Simulation.{stage, Simulates, is_stuck, simulates_trans, simulates_refl, simulates_equal, simulates_or_stuck}
use Rattle.theory_soundness.proofs.simulation.Forms.{simulates_bind}

pub simulates_assoc : {k : Context} {c : Setting k} (a : Act) (f g : Value → Act) → Simulates c ((a >>= f) >>= g) (a >>= λ v. f v >>= g)
simulates_assoc {c = c} a f g = simulates_equal (λ m. bind_assoc (world c) m.env a f g m.store m.turns)

pub simulates_unassoc : {k : Context} {c : Setting k} (a : Act) (f g : Value → Act) → Simulates c (a >>= λ v. f v >>= g) ((a >>= f) >>= g)
simulates_unassoc {c = c} a f g = simulates_equal (λ m. sym (bind_assoc (world c) m.env a f g m.store m.turns))

-- a value is as good as what follows from it
pub simulates_alone : {k : Context} {c : Setting k} (a : Act) (f : Value → Act) → ((v : Value) → Simulates c (f v) (give v)) → Simulates c (a >>= f) a
simulates_alone {c = c} a f h = simulates_trans (simulates_bind {f' = give} (simulates_refl {a = a}) h) (simulates_equal (λ m. bind_unit (world c) m.env a m.store m.turns))

-- what is stuck may become anything
pub simulates_stuck : {k : Context} {c : Setting k} (f : Stuck) (b : Act) → Simulates c (Fail f) b
simulates_stuck {c = c} f b = simulates_or_stuck (λ m. is_stuck f m.turns (preserves (world c) m.env m.adds b m.store m.turns).calls)

-- by the bool that a value is
in_branches : {k : Context} {c : Setting k} (o : Option Bool) {a a' b : Act} → Simulates c a b → Simulates c a' b → Simulates c (branch o a a') b
in_branches None {b = b} g h = simulates_stuck _ b
in_branches (Some true) g h = g
in_branches (Some false) g h = h

pub simulates_either : {k : Context} {c : Setting k} (v : Value) {a a' b : Act} → Simulates c a b → Simulates c a' b → Simulates c (if_true v a a') b
simulates_either v g h = in_branches (truth v) g h

-- braces around one act, and around nothing
pub simulates_braces : {k : Context} {c : Setting k} (a : Act) → Simulates c (Scoped (then_line a (λ v. Only (give v)))) a
simulates_braces {c = c} a = simulates_equal (λ m. ap (leave m.store) (line_unit (world c) m.env a (inside m.store) m.turns) ∙ scoped_only (world c) m.env m.adds a m.store m.turns)

pub simulates_to_braces : {k : Context} {c : Setting k} (a : Act) → Simulates c a (Scoped (then_line a (λ v. Only (give v))))
simulates_to_braces {c = c} a = simulates_equal (λ m. sym (ap (leave m.store) (line_unit (world c) m.env a (inside m.store) m.turns) ∙ scoped_only (world c) m.env m.adds a m.store m.turns))

pub simulates_to_empty : {k : Context} {c : Setting k} → Simulates c unit (Scoped (Only unit))
simulates_to_empty = simulates_equal (λ m. sym (leave_same m.store (Gives UnitV) m.turns))

-- ---- a turn may be saved

turn_follows : {k : Context} (c : Setting k) (d : ℕ) (a b : Act) → SimulatesAt c (stage c d) a b → (s : Store) (t : ℕ) → Agreed k s → Follows AnyHalt 0 (with_turn t s (run_by_depth c a d)) (run (world c) (environment c d) b s t)
turn_follows c d a b h s zero ag = short tt (preserves (world c) (environment c d) (adds_at c d) b s zero).calls
turn_follows c d a b h s (suc t) ag = follows_trans (h.matches s t ag).forward (monotone AnyHalt tt 0 (world c) (environment c d) (environment c d) (steady_at c d) b s t (suc t) (omega arith))

pub turn_goes : {k : Context} {c : Setting k} {a b : Act} → Simulates c a b → Simulates c (Turn a) b
turn_goes {c = c} {a = a} {b = b} h = record {
  at = λ d. record {
    matches = λ s t ag. record {
      forward = turn_follows c d a b (h.at d) s t ag;
      backward = met_move (run_by_depth c a) (run_by_depth c (Turn a)) s s _ (λ o s' x. ends_as (λ d1 t1. refl) (ends_turn (run_by_depth c a) s o s' x)) ((h.at d).matches s t ag).backward;
    };
  };
}

-- so many turns first
abbrev after_turns : ℕ → Act → Act
after_turns zero a = a
after_turns (suc n) a = Turn (after_turns n a)

turns_go : {k : Context} {c : Setting k} (n : ℕ) {a b : Act} → Simulates c a b → Simulates c (after_turns n a) b
turns_go zero h = h
turns_go (suc n) h = turn_goes (turns_go n h)

module _ (w : World) (env : Env) where
  given_late : (n : ℕ) (v : Value) (next : Ending → Act) (s : Store) (t : ℕ) → and_then (spend n (Ended (Gives v)) s t) (λ e. run w env (next e)) ≡ run w env (after_turns n (next (Gives v))) s t
  given_late zero v next s t = refl
  given_late (suc n) v next s zero = refl
  given_late (suc n) v next s (suc t) = given_late n v next s t

  stuck_late : (n : ℕ) (f : Stuck) (next : Ending → Act) (s : Store) (t : ℕ) → and_then (spend n (Halted (IsStuck f)) s t) (λ e. run w env (next e)) ≡ run w env (after_turns n (Fail f)) s t
  stuck_late zero f next s t = refl
  stuck_late (suc n) f next s zero = refl
  stuck_late (suc n) f next s (suc t) = stuck_late n f next s t

-- what comes after it, late
late_goes : {k : Context} {c : Setting k} (a : Act) (next : Ending → Act) (b : Act) (s : Store) (n : ℕ) (z : Settled) → ((env : Env) → OnlyAdds env → (t : ℕ) → run (world c) env a s t ≡ spend n (settled z) s t) → ((v : Value) → Simulates c (next (Gives v)) b) → (d t : ℕ) → Agreed k s → Matches (run_by_depth c (Then a next)) d s t (run (world c) (environment c d) b s t)
late_goes {c = c} a next b s n (Gave v) r h d t ag = matches_as (λ d1 t1. ap (λ q. and_then q (λ e. run (world c) (environment c d1) (next e))) (r (environment c d1) (adds_at c d1) t1) ∙ given_late (world c) (environment c d1) n v next s t1) (((turns_go {c = c} n (h v)).at d).matches s t ag)
late_goes {c = c} a next b s n (Stopped f) r h d t ag = matches_as (λ d1 t1. ap (λ q. and_then q (λ e. run (world c) (environment c d1) (next e))) (r (environment c d1) (adds_at c d1) t1) ∙ stuck_late (world c) (environment c d1) n f next s t1) (((turns_go {c = c} n (simulates_stuck f b)).at d).matches s t ag)

-- an act that changes nothing may go, whatever comes after by how it ends
pub calm_ending_goes : {k : Context} {c : Setting k} (a : Act) (next : Ending → Act) (b : Act) → Calm (world c) a → ((v : Value) → Simulates c (next (Gives v)) b) → Simulates c (Then a next) b
calm_ending_goes a next b p h = record {
  at = λ d. record { matches = λ s t ag. let q = p.from s in late_goes a next b s q.cost q.end q.by h d t ag };
}

pub pure_goes : {k : Context} {c : Setting k} (a : Act) (f : Value → Act) (b : Act) → Pure (world c) a → ((v : Value) → Simulates c (f v) b) → Simulates c (a >>= f) b
pure_goes {c = c} a f b p h = calm_ending_goes a _ b (calm_of (world c) p) h
