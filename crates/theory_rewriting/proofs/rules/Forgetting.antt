-- The rule by which an arm that no list names forgets its answer.
use Rattle.std.proofs.Common.{◌≡◌, ℕ, zero, suc, ◌+◌, ◌≤◌, Bool, true, false, List, [], ◌∷◌, Option, Some, None, refl, sym, ap, ◌∙◌, arith}
use Rattle.std.specs.Prelude.{◌&&◌, ◌==◌, nat_lt}
use Rattle.std.proofs.lemmas.Bool.{or_parts}
use Rattle.std.proofs.lemmas.Bool.Decides.{Decides-eqb}
use Rattle.base_tokens.specs.Names.{are_all}
use Rattle.theory_meaning.specs.Constants.{is_literal_unit}
use Rattle.theory_meaning.specs.Shape.{names_arm, condition_at, case_fits, spares, default_fits, is_table}
use Rattle.theory_meaning.specs.Tree.{SwitchTable, Expr, UnitConstant, ArrayOf, BlockExpr, FnCall, Arms, no_arms, arm, count_arms, Switch}
use Rattle.theory_meaning.specs.Walk.{Node, Around, listed}
use Rattle.theory_meaning.specs.Weight.{expr_weight}
use Rattle.theory_rewriting.specs.Context.{Context}
use Rattle.theory_rewriting.specs.Tables.{arm_of, forgotten}
use Rattle.theory_rewriting.proofs.rules.Arms.{AllArms, ArmHolds, all_hold, arms_weight}
use Rattle.theory_rewriting.proofs.rules.Lasting.{same_switch}
use Rattle.theory_rewriting.proofs.rules.Obligation.{StmtObligation}
use Rattle.theory_rewriting.proofs.rules.Tables.{held_again}

count_stays : (as' : Arms) (j : ℕ) → count_arms (forgotten as' j) ≡ count_arms as'
count_stays no_arms j = refl
count_stays (arm c a as') zero = refl
count_stays (arm c a as') (suc j) = ap suc (count_stays as' j)

condition_stays : (as' : Arms) (j i : ℕ) → condition_at (forgotten as' j) i ≡ condition_at as' i
condition_stays no_arms j i = refl
condition_stays (arm c a as') zero zero = refl
condition_stays (arm c a as') zero (suc i) = refl
condition_stays (arm c a as') (suc j) zero = refl
condition_stays (arm c a as') (suc j) (suc i) = condition_stays as' j i

unit_lighter : (a : Expr) → is_literal_unit a ≡ false → 2 ≤ expr_weight a
unit_lighter UnitConstant h = absurd (let z : true ≡ false = h in cc)
unit_lighter (ArrayOf es) h = omega arith
unit_lighter (BlockExpr ss) h = omega arith
unit_lighter (FnCall c es) h = omega arith
unit_lighter _ h = omega arith

abbrev pub answer_weight : Option (Expr × Expr) → ℕ
answer_weight None = 1
answer_weight (Some p) = expr_weight p.1

weight_moves : (as' : Arms) (j : ℕ) → arms_weight (forgotten as' j) + answer_weight (arm_of as' j) ≡ arms_weight as' + 1
weight_moves no_arms j = omega arith
weight_moves (arm c a as') zero = omega arith
weight_moves (arm c a as') (suc j) = omega (arith, weight_moves as' j)

default_stays : (as' : Arms) (j : ℕ) (t : SwitchTable) (o : Option ℕ) → default_fits (forgotten as' j) t o ≡ default_fits as' t o
default_stays as' j t None = refl
default_stays as' j t (Some d) = λ i. nat_lt d (count_stays as' j i) && condition_stays as' j d i && spares d t

pub table_stays : (as' : Arms) (j : ℕ) (t : SwitchTable) → is_table (forgotten as' j) t ≡ is_table as' t
table_stays as' j t = λ i. are_all (case_fits (count_stays as' j i)) t.cases && are_all (λ r. nat_lt r.arm (count_stays as' j i)) t.ranges && default_stays as' j t t.default i

-- an arm that no list names is none of those listed
pub unnamed : (j : ℕ) (is : List ℕ) → names_arm j is ≡ false → AllArms (λ i. i ≡ j → ⊥) is
unnamed j [] h = tt
unnamed j (i ∷ is) h =
    let z = or_parts (j == i) (names_arm j is) h in
    ((λ e. let y : true ≡ false = sym ((Decides-eqb j i).1 (sym e)) ∙ z.0 in absurd cc), unnamed j is z.1)

module _ (P : Around → Node → Type 0) (l : Bool) where
  holds_still : (as' : Arms) (j i : ℕ) → (i ≡ j → ⊥) → ArmHolds P l as' i → ArmHolds P l (forgotten as' j) i
  holds_still no_arms j i h p = p
  holds_still (arm c a as') zero zero h p = absurd (h refl)
  holds_still (arm c a as') zero (suc i) h p = p
  holds_still (arm c a as') (suc j) zero h p = p
  holds_still (arm c a as') (suc j) (suc i) h p = holds_still as' j i (λ e. h (ap suc e)) p

  hold_still : (as' : Arms) (j : ℕ) (is : List ℕ) → AllArms (λ i. i ≡ j → ⊥) is → AllArms (ArmHolds P l as') is → AllArms (ArmHolds P l (forgotten as' j)) is
  hold_still as' j [] h p = tt
  hold_still as' j (i ∷ is) h p = (holds_still as' j i h.0 p.0, hold_still as' j is h.1 p.1)

pub switch_forgets : {k : Context} {w : Bool} {e : Expr} {as' : Arms} {t : SwitchTable} {c a : Expr} (j : ℕ) → arm_of as' j ≡ Some (c, a) → is_literal_unit a ≡ false → names_arm j (listed t) ≡ false → StmtObligation k w (Switch e as' t) (Switch e (forgotten as' j) t)
switch_forgets {e = e} {as' = as'} {t = t} {c = d} {a = a} j q u n =
    let m : expr_weight a ≡ answer_weight (arm_of as' j) = ap answer_weight (sym q) in
    let x : is_table as' t ≡ true → is_table (forgotten as' j) t ≡ true = λ h. table_stays as' j t ∙ h in
    record {
      lighter = omega (arith, weight_moves as' j, m, unit_lighter a u);
      keeps = λ P l lasts z. (lasts.again (same_switch x) z.0, (z.1.0, held_again P l (forgotten as' j) (listed t) (hold_still P l as' j (listed t) (unnamed j (listed t) n) (all_hold P l as' (listed t) z.1.1))));
    }
