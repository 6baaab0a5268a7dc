-- One script after another: what each one does as the one before it, the last one does as the first.
use Rattle.std.proofs.Common.{ℕ, ◌⊎◌, inl, inr, List, [], ◌∷◌, arith}
use Rattle.theory_meaning.specs.Act.{Store, Ending, Stuck, IsStuck, Ended, Halted, Result}
use Rattle.theory_meaning.specs.Engine.{Engine}
use Rattle.theory_meaning.specs.Tree.{Function, Script}
use Rattle.theory_meaning.proofs.Preserves.{begins_trans}
use Rattle.theory_soundness.specs.Kept.{AreNoHeavier, Keeps}
use Rattle.theory_rewriting.specs.Known.{Known}
use Rattle.theory_soundness.specs.Refines.{EndsSo, RunRefines, RefinesWhere}

module _ {r r1 r2 : ℕ → Result} (f : RunRefines r r1) (g : RunRefines r1 r2) where
  stuck_before : (x : Stuck) (s : Store) → EndsSo r1 (Halted (IsStuck x)) s → (y : Stuck) × (s' : Store) × EndsSo r (Halted (IsStuck y)) s'
  stuck_before x s e = f.no_new_stuck e.0 x s e.1 e.2

  end_before : (o : Ending) (s : Store) → EndsSo r1 (Ended o) s ⊎ ((x : Stuck) × (s' : Store) × EndsSo r1 (Halted (IsStuck x)) s') → EndsSo r (Ended o) s ⊎ ((x : Stuck) × (s' : Store) × EndsSo r (Halted (IsStuck x)) s')
  end_before o s (inl e) = f.no_new_end e.0 o s e.1 e.2
  end_before o s (inr e) = inr (stuck_before e.0 e.1 e.2)

  runs_then : RunRefines r r2
  runs_then = record {
    same_end = λ n o s left h.
        let x = f.same_end n o s left h in
        let y = g.same_end n o s x.0 x.2 in
        (y.0, omega (arith, x.1, y.1), y.2);
    same_calls = λ n. begins_trans (f.same_calls n) (g.same_calls n);
    no_new_end = λ n o s left h. end_before o s (g.no_new_end n o s left h);
    no_new_stuck = λ n x s left h. let e = g.no_new_stuck n x s left h in stuck_before e.0 e.1 e.2;
  }

pub refines_then : {engine : Engine} {known : List Known} {p p1 p2 : Script} → RefinesWhere engine known p p1 → RefinesWhere engine known p1 p2 → RefinesWhere engine known p p2
refines_then f g = record { runs = λ host scope e ag. runs_then (f.runs host scope e ag) (g.runs host scope e ag) }

lighter_then : (fs gs hs : List Function) → AreNoHeavier fs gs → AreNoHeavier gs hs → AreNoHeavier fs hs
lighter_then [] [] [] p q = tt
lighter_then (f ∷ fs) (g ∷ gs) (h ∷ hs) p q = (omega (arith, p.0, q.0), lighter_then fs gs hs p.1 q.1)
lighter_then [] (g ∷ gs) hs p q = absurd p
lighter_then (f ∷ fs) [] hs p q = absurd p
lighter_then [] [] (h ∷ hs) p q = absurd q
lighter_then (f ∷ fs) (g ∷ gs) [] p q = absurd q

pub keeps_then : {p p1 p2 : Script} → Keeps p p1 → Keeps p1 p2 → Keeps p p2
keeps_then {p = p} {p1 = p1} {p2 = p2} f g = record {
  well_formed = λ h. g.well_formed (f.well_formed h);
  plain = λ h. g.plain (f.plain h);
  places = λ h. g.places (f.places h);
  captures = λ Q h. g.captures Q (f.captures Q h);
  operators = λ h. g.operators (f.operators h);
  statements = omega (arith, f.statements, g.statements);
  functions = lighter_then p.functions p1.functions p2.functions f.functions g.functions;
}
