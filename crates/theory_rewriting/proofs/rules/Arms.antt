-- The arms of a `switch`: those that are tried are listed, and what holds of all that are listed holds of them.
use Rattle.std.proofs.Common.{◌≡◌, ℕ, zero, suc, ◌+◌, ◌≤◌, Bool, true, false, cond, List, [], ◌∷◌, ◌++◌, Option, Some, None, refl, ap, arith}
use Rattle.rhai_base.specs.Value.{Value, same, is_hashable}
use Rattle.theory_meaning.specs.Control.{holds, ranges_with, case_for, or_ranges, chosen}
use Rattle.theory_meaning.specs.Tree.{SwitchCase, SwitchRange, SwitchTable, Expr, Arms, no_arms, arm}
use Rattle.theory_meaning.specs.Walk.{Node, Around, whole, throughout, total, sum_of, over_expr, over_arms, arm_at, arms_at, arms_of_cases, arms_of_ranges, arm_of_default, listed}
use Rattle.theory_meaning.specs.Weight.{own_weight, expr_weight}
use Rattle.theory_rewriting.specs.Tables.{arm_of, arm_decides, left_with, left_arms}

module _ (Q : ℕ → Type 0) where
  abbrev pub AllArms : List ℕ → Type 0
  AllArms [] = Unit {0}
  AllArms (i ∷ is) = Q i × AllArms is

  pub all_split : (is js : List ℕ) → AllArms (is ++ js) → AllArms is × AllArms js
  all_split [] js h = (tt, h)
  all_split (i ∷ is) js h = let z = all_split is js h.1 in ((h.0, z.0), z.1)

  abbrev AllOf : Option (List ℕ) → Type 0
  AllOf None = Unit {0}
  AllOf (Some is) = AllArms is

  one_case : (b : Bool) (is : List ℕ) (o : Option (List ℕ)) → AllArms is → AllOf o → AllOf (cond b (Some is) o)
  one_case true is o h k = h
  one_case false is o h k = k

  all_cases : (cs : List SwitchCase) (v : Value) → AllArms (arms_of_cases cs) → AllOf (case_for cs v)
  all_cases [] v h = tt
  all_cases (c ∷ cs) v h = let z = all_split c.arms (arms_of_cases cs) h in one_case (same c.value v) c.arms (case_for cs v) z.0 (all_cases cs v z.1)

  one_range : (b : Bool) (i : ℕ) (is : List ℕ) → Q i → AllArms is → AllArms (cond b (i ∷ is) is)
  one_range true i is h k = (h, k)
  one_range false i is h k = k

  all_ranges : (rs : List SwitchRange) (v : Value) → AllArms (arms_of_ranges rs) → AllArms (ranges_with rs v)
  all_ranges [] v h = tt
  all_ranges (r ∷ rs) v h = one_range (holds r.range v) r.arm (ranges_with rs v) h.0 (all_ranges rs v h.1)

  all_or : (t : SwitchTable) (v : Value) (o : Option (List ℕ)) → AllOf o → AllArms (arms_of_ranges t.ranges) → AllArms (or_ranges t v o)
  all_or t v None h k = all_ranges t.ranges v k
  all_or t v (Some is) h k = h

  all_hashable : (b : Bool) (o : Option (List ℕ)) → AllOf o → AllOf (cond b o None)
  all_hashable true o h = h
  all_hashable false o h = tt

  pub all_chosen : (t : SwitchTable) (v : Value) → AllArms (listed t) → AllArms (chosen t v)
  all_chosen t v h =
      let y = all_split (arms_of_cases t.cases ++ arms_of_ranges t.ranges) (arm_of_default t.default) h in
      let z = all_split (arms_of_cases t.cases) (arms_of_ranges t.ranges) y.0 in
      all_or t v (cond (is_hashable v) (case_for t.cases v) None) (all_hashable (is_hashable v) (case_for t.cases v) (all_cases t.cases v z.0)) z.1

  pub all_default : (t : SwitchTable) → AllArms (listed t) → AllArms (arm_of_default t.default)
  all_default t h = (all_split (arms_of_cases t.cases ++ arms_of_ranges t.ranges) (arm_of_default t.default) h).1

  all_with : (o : Option Bool) (i : ℕ) (is : List ℕ) → Q i → AllArms is → AllArms (left_with o i is)
  all_with (Some false) i is h k = k
  all_with (Some true) i is h k = (h, tt)
  all_with None i is h k = (h, k)

  pub all_left : (as' : Arms) (is : List ℕ) → AllArms is → AllArms (left_arms as' is)
  all_left as' [] h = tt
  all_left as' (i ∷ is) h = all_with (arm_decides (arm_of as' i)) i (left_arms as' is) h.0 (all_left as' is h.1)

-- ---- what holds of every node of the arms that are listed

module _ (P : Around → Node → Type 0) (l : Bool) where
  abbrev pub ArmHolds : Arms → ℕ → Type 0
  ArmHolds as' i = arm_at (λ a. Unit {0}) (over_arms (throughout P) as') i (whole l)

  pub all_hold : (as' : Arms) (is : List ℕ) → arms_at (λ a. Unit {0}) (λ p q a. p a × q a) (over_arms (throughout P) as') is (whole l) → AllArms (ArmHolds as') is
  all_hold as' [] h = tt
  all_hold as' (i ∷ is) h = (h.0, all_hold as' is h.1)

  abbrev pub HoldsOf : Option (Expr × Expr) → Type 0
  HoldsOf None = Unit {0}
  HoldsOf (Some p) = over_expr (throughout P) p.0 (whole l) × over_expr (throughout P) p.1 (whole l)

  pub arm_holds : (as' : Arms) (i : ℕ) → ArmHolds as' i → HoldsOf (arm_of as' i)
  arm_holds no_arms i h = tt
  arm_holds (arm c a as') zero h = h
  arm_holds (arm c a as') (suc i) h = arm_holds as' i h

-- ---- weights

abbrev pub arms_weight : Arms → ℕ
arms_weight as' = sum_of (over_arms (total own_weight) as')

abbrev pub arm_weight : Option (Expr × Expr) → ℕ
arm_weight None = 0
arm_weight (Some p) = expr_weight p.0 + expr_weight p.1

pub arm_light : (as' : Arms) (i : ℕ) → arm_weight (arm_of as' i) ≤ arms_weight as'
arm_light no_arms i = omega arith
arm_light (arm c a as') zero = omega arith
arm_light (arm c a as') (suc i) = omega (arith, arm_light as' i)

pub two_light : (as' : Arms) (i j : ℕ) → (i ≡ j → ⊥) → arm_weight (arm_of as' i) + arm_weight (arm_of as' j) ≤ arms_weight as'
two_light no_arms i j h = omega arith
two_light (arm c a as') zero zero h = absurd (h refl)
two_light (arm c a as') zero (suc j) h = omega (arith, arm_light as' j)
two_light (arm c a as') (suc i) zero h = omega (arith, arm_light as' i)
two_light (arm c a as') (suc i) (suc j) h = omega (arith, two_light as' i j (λ e. h (ap suc e)))
