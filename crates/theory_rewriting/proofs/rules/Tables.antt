-- The rules by which the table of a `switch` gets smaller: a lemma each, of the rule's name.
use Rattle.std.proofs.Common.{◌≡◌, ℕ, Bool, true, List, [], ◌∷◌, Some, refl, arith}
use Rattle.rhai_base.specs.Value.{Value, is_hashable}
use Rattle.theory_meaning.specs.Constants.{constant_value}
use Rattle.theory_meaning.specs.Control.{case_for}
use Rattle.theory_meaning.specs.Tree.{SwitchTable, Expr, Arms, Switch}
use Rattle.theory_meaning.specs.Walk.{Node, Around, whole, throughout, over_arms, arms_at, listed}
use Rattle.theory_rewriting.specs.Context.{Context}
use Rattle.theory_rewriting.specs.Shrinking.{AreDistinct, left_ranges, has_some, left_cases, shrinks, shrunk}
use Rattle.theory_rewriting.specs.Narrowing.{narrows_by, narrowed_by}
use Rattle.theory_rewriting.proofs.rules.Arms.{AllArms, ArmHolds, all_hold}
use Rattle.theory_rewriting.proofs.rules.Fitting.{fits_still}
use Rattle.theory_rewriting.proofs.rules.Lasting.{same_switch}
use Rattle.theory_rewriting.proofs.rules.Obligation.{StmtObligation}
use Rattle.theory_rewriting.proofs.rules.Narrowed.{listed_kept, fits_narrowed, narrowed_lighter}
use Rattle.theory_rewriting.proofs.rules.Shrunk.{ranges_to, cases_to, listed_still, table_lighter}

pub held_again : (P : Around → Node → Type 0) (l : Bool) (as' : Arms) (is : List ℕ) → AllArms (ArmHolds P l as') is → arms_at (λ a. Unit {0}) (λ p q a. p a × q a) (over_arms (throughout P) as') is (whole l)
held_again P l as' [] h = tt
held_again P l as' (i ∷ is) h = (h.0, held_again P l as' is h.1)

-- ---- the rules

pub switch_shrinks : {k : Context} {w : Bool} {e : Expr} {as' : Arms} {t : SwitchTable} → AreDistinct t.cases → shrinks as' t ≡ true → StmtObligation k w (Switch e as' t) (Switch e as' (shrunk as' t))
switch_shrinks {e = e} {as' = as'} {t = t} d h =
    let qs = left_ranges as' t.ranges in
    let cs = left_cases as' (has_some qs) t.cases in
    let t' : SwitchTable = shrunk as' t in
    let p = cases_to as' qs (has_some qs) t.cases refl d in
    let q = ranges_to as' t.ranges in
    let x = fits_still as' t cs qs p q in
    record {
      lighter = omega (arith, table_lighter as' t h);
      keeps = λ P l lasts z. (lasts.again (same_switch x) z.0, (z.1.0, held_again P l as' (listed t') (listed_still as' (ArmHolds P l as') t (all_hold P l as' (listed t) z.1.1))));
    }

pub switch_narrows : {k : Context} {w : Bool} {e : Expr} {as' : Arms} {t : SwitchTable} (v : Value) → constant_value e ≡ Some v → is_hashable v ≡ true → narrows_by as' t v (case_for t.cases v) ≡ true → StmtObligation k w (Switch e as' t) (Switch e as' (narrowed_by as' t v (case_for t.cases v)))
switch_narrows {e = e} {as' = as'} {t = t} v h i n =
    let o = case_for t.cases v in
    let t' = narrowed_by as' t v o in
    let x = fits_narrowed as' v t o in
    record {
      lighter = omega (arith, narrowed_lighter as' v t o refl n);
      keeps = λ P l lasts z. (lasts.again (same_switch x) z.0, (z.1.0, held_again P l as' (listed t') (listed_kept as' v (ArmHolds P l as') t o (all_hold P l as' (listed t) z.1.1))));
    }
