-- A list goes on without an act that changes nothing.
use Rattle.std.proofs.Common.{◌≡◌, ℕ, zero, suc, ◌+◌, ◌-◌, ◌≤◌, sym, ap, ◌∙◌, subst, arith}
use Rattle.rhai_base.specs.Value.{Value}
use Rattle.theory_meaning.specs.Act.{Store, Gives, Stuck, IsStuck, Outcome, Ended, Halted, Result, At, Act, Acts, Env, and_then, run, run_all}
use Rattle.theory_meaning.specs.ActForms.{each_value, then_line}
use Rattle.theory_meaning.specs.Laws.{Settled, Gave, Stopped, settled, spend}
use Rattle.theory_meaning.proofs.Relations.{Follows, short, AnyHalt}
use Rattle.theory_meaning.proofs.Preserves.{OnlyAdds, preserves_all}
use Rattle.theory_meaning.proofs.Monotone.{monotone_all}
use Rattle.theory_meaning.proofs.Ends.{Ends, Met, stuck, met_self, met_move}
use Rattle.theory_meaning.proofs.PureActs.{Calm, spend_enough}
use Rattle.theory_rewriting.specs.Context.{Context}
use Rattle.theory_soundness.proofs.simulation.Setting.{Setting, world, environment, run_all_by_depth, adds_at, steady_at, rises_all}
use Rattle.theory_soundness.proofs.simulation.Simulation.{SimulatesAll}

spend_rest : (n : ℕ) (o : Outcome) (s : Store) (t : ℕ) → n ≤ t → spend n o s t ≡ At o s (t - n)
spend_rest n o s t le = let e : t ≡ n + (t - n) = omega (arith, le) in ap (spend n o s) e ∙ spend_enough n o s (t - n)

module _ {k : Context} (c : Setting k) where
  abbrev then_list : ℕ → Acts → Result → Result
  then_list d p r = and_then r (λ e. run_all (world c) (environment c d) (each_value (λ v. p) e))

  drop_follows : (d : ℕ) (p : Acts) (n : ℕ) (z : Settled) (s : Store) (t t1 : ℕ) → t ≤ t1 → Follows AnyHalt 0 (then_list d p (spend n (settled z) s t)) (run_all (world c) (environment c d) p s t1)
  drop_follows d p zero (Gave v) s t t1 le = monotone_all AnyHalt tt 0 (world c) (environment c d) (environment c d) (steady_at c d) p s t t1 (omega (arith, le))
  drop_follows d p zero (Stopped f) s t t1 le = short tt (preserves_all (world c) (environment c d) (adds_at c d) p s t1).calls
  drop_follows d p (suc n) z s zero t1 le = short tt (preserves_all (world c) (environment c d) (adds_at c d) p s t1).calls
  drop_follows d p (suc n) z s (suc t) t1 le = drop_follows d p n z s t t1 (omega (arith, le))

  ends_drop : (a : Act) (p : Acts) (s : Store) (n : ℕ) (v : Value) → ((env : Env) → OnlyAdds env → (t : ℕ) → run (world c) env a s t ≡ spend n (Ended (Gives v)) s t) → (o : Outcome) (s1 : Store) → Ends (run_all_by_depth c p) s o s1 → Ends (run_all_by_depth c (then_line a (λ u. p))) s o s1
  ends_drop a p s n v h o s1 x = record {
    depth = x.depth;
    turns = n + x.turns;
    over = x.over;
    by = λ d t m le lt.
        let y = x.by d (t - n) m le (omega (arith, lt)) in
        (y.0, y.1, ap (then_list d p) (h (environment c d) (adds_at c d) t ∙ spend_rest n (Ended (Gives v)) s t (omega (arith, lt))) ∙ y.2);
  }

  ends_stuck : (a : Act) (p : Acts) (s : Store) (n : ℕ) (f : Stuck) → ((env : Env) → OnlyAdds env → (t : ℕ) → run (world c) env a s t ≡ spend n (Halted (IsStuck f)) s t) → Ends (run_all_by_depth c (then_line a (λ u. p))) s (Halted (IsStuck f)) s
  ends_stuck a p s n f h = record {
    depth = 0;
    turns = n;
    over = tt;
    by = λ d t m le lt. (t - n, omega (arith, lt), ap (then_list d p) (h (environment c d) (adds_at c d) t ∙ spend_rest n (Halted (IsStuck f)) s t (omega (arith, lt))));
  }

  drop_met : (a : Act) (p : Acts) (s : Store) (n : ℕ) (z : Settled) → ((env : Env) → OnlyAdds env → (t : ℕ) → run (world c) env a s t ≡ spend n (settled z) s t) → (d t : ℕ) → Met (run_all_by_depth c (then_line a (λ u. p))) s (run_all (world c) (environment c d) p s t)
  drop_met a p s n (Gave v) h d t = met_move (run_all_by_depth c p) (run_all_by_depth c (then_line a (λ u. p))) s s _ (λ o s1 x. ends_drop a p s n v h o s1 x) (met_self (run_all_by_depth c p) (rises_all c p) d s t)
  drop_met a p s n (Stopped f) h d t = stuck f s (ends_stuck a p s n f h)

  pub all_goes : (a : Act) (p : Acts) → Calm (world c) a → SimulatesAll c (then_line a (λ v. p)) p
  all_goes a p pure = record {
    at = λ d. record {
      matches = λ s t ag. record {
        forward =
            let z = pure.from s in
            subst (λ r. Follows AnyHalt 0 (then_list d p r) (run_all (world c) (environment c d) p s t)) (sym (z.by (environment c d) (adds_at c d) t)) (drop_follows d p z.cost z.end s t t (omega arith));
        backward = let z = pure.from s in drop_met a p s z.cost z.end z.by d t;
      };
    };
  }
