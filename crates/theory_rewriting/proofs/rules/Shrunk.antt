-- A table of which something goes whatever the subject is: what goes of it one by one, and its weight.
use Rattle.std.proofs.Common.{◌≡◌, ℕ, suc, ◌+◌, ◌<◌, ◌≤◌, Bool, true, false, cond, not, List, [], ◌∷◌, ◌++◌, Option, Some, None, length, refl, sym, ap, ◌∙◌, subst, arith}
use Rattle.std.specs.Prelude.{◌||◌, ◌&&◌, nat_lt}
use Rattle.std.proofs.lemmas.Bool.Decides.{nat_tests}
use Rattle.rhai_base.specs.Value.{Value, same}
use Rattle.theory_meaning.specs.Control.{case_for}
use Rattle.theory_meaning.specs.Tree.{Arms, SwitchCase, SwitchRange, SwitchTable}
use Rattle.theory_meaning.specs.Walk.{arms_of_cases, arms_of_ranges, arm_of_default, listed}
use Rattle.theory_meaning.specs.Weight.{cases_weight, table_weight}
use Rattle.theory_rewriting.specs.Answering.{is_that}
use Rattle.theory_rewriting.specs.Tables.{arm_of, arm_decides, left_with, left_arms}
use Rattle.theory_rewriting.specs.Shrinking.{AreDistinct, is_false_arm, has_false, left_ranges, has_some, loses_arms, is_none, list_shrinks, lists_shrink, stays, left_cases, shrinks, shrunk}
use Rattle.theory_rewriting.proofs.rules.Arms.{AllArms, all_split, all_left}

-- ---- what goes

-- ranges one by one
pub data RangesTo (as' : Arms) : List SwitchRange → List SwitchRange → Type 0 where
  no_ranges : RangesTo as' [] []
  range_stays : {r : SwitchRange} {rs qs : List SwitchRange} → RangesTo as' rs qs → RangesTo as' (r ∷ rs) (r ∷ qs)
  false_range_goes : {r : SwitchRange} {rs qs : List SwitchRange} → arm_decides (arm_of as' r.arm) ≡ Some false → RangesTo as' rs qs → RangesTo as' (r ∷ rs) qs

-- Case lists one by one; qs: the ranges afterwards. An empty list goes only where no range and no later list of its value stands.
pub data CasesTo (as' : Arms) (qs : List SwitchRange) : List SwitchCase → List SwitchCase → Type 0 where
  no_cases : CasesTo as' qs [] []
  case_shrinks : {v : Value} {is : List ℕ} {cs ds : List SwitchCase} → CasesTo as' qs cs ds → CasesTo as' qs (record { value = v; arms = is } ∷ cs) (record { value = v; arms = left_arms as' is } ∷ ds)
  empty_case_goes : {v : Value} {is : List ℕ} {cs ds : List SwitchCase} → qs ≡ [] → left_arms as' is ≡ [] → case_for ds v ≡ None → CasesTo as' qs cs ds → CasesTo as' qs (record { value = v; arms = is } ∷ cs) ds

-- ---- tests

pub either : {R : Type 0} (a b : Bool) → a || b ≡ true → (a ≡ true → R) → (b ≡ true → R) → R
either true b h f g = f refl
either false b h f g = g h

pub is_below : (m n : ℕ) → nat_lt m n ≡ true → m < n
is_below m n h = grind (arith, nat_tests)

decides_false : (o : Option Bool) → is_that false o ≡ true → o ≡ Some false
decides_false (Some false) h = refl
decides_false (Some true) h = absurd (let z : false ≡ true = h in cc)
decides_false None h = absurd (let z : false ≡ true = h in cc)

-- ---- ranges

module _ (as' : Arms) where
  pub ranges_to : (rs : List SwitchRange) → RangesTo as' rs (left_ranges as' rs)
  ranges_to [] = no_ranges
  ranges_to (r ∷ rs) = by (is_false_arm as' r.arm) refl (ranges_to rs) where
    by : (b : Bool) → is_false_arm as' r.arm ≡ b → RangesTo as' rs (left_ranges as' rs) → RangesTo as' (r ∷ rs) (cond b (left_ranges as' rs) (r ∷ left_ranges as' rs))
    by true h k = false_range_goes (decides_false (arm_decides (arm_of as' r.arm)) h) k
    by false h k = range_stays k

  ranges_light : (rs : List SwitchRange) → length (left_ranges as' rs) ≤ length rs
  ranges_light [] = omega arith
  ranges_light (r ∷ rs) = by (is_false_arm as' r.arm) (ranges_light rs) where
    by : (b : Bool) → length (left_ranges as' rs) ≤ length rs → length (cond b (left_ranges as' rs) (r ∷ left_ranges as' rs)) ≤ suc (length rs)
    by true k = omega (arith, k)
    by false k = omega (arith, k)

  ranges_lighter : (rs : List SwitchRange) → has_false as' rs ≡ true → length (left_ranges as' rs) < length rs
  ranges_lighter [] h = absurd (let z : false ≡ true = h in cc)
  ranges_lighter (r ∷ rs) h = by (is_false_arm as' r.arm) h (λ q. ranges_lighter rs q) where
    by : (b : Bool) → b || has_false as' rs ≡ true → (has_false as' rs ≡ true → length (left_ranges as' rs) < length rs) → length (cond b (left_ranges as' rs) (r ∷ left_ranges as' rs)) < suc (length rs)
    by true q k = omega (arith, ranges_light rs)
    by false q k = omega (arith, k q)

  pub ranges_same : (rs : List SwitchRange) → has_false as' rs ≡ false → left_ranges as' rs ≡ rs
  ranges_same [] h = refl
  ranges_same (r ∷ rs) h = by (is_false_arm as' r.arm) h (λ q. ranges_same rs q) where
    by : (b : Bool) → b || has_false as' rs ≡ false → (has_false as' rs ≡ false → left_ranges as' rs ≡ rs) → cond b (left_ranges as' rs) (r ∷ left_ranges as' rs) ≡ r ∷ rs
    by true q k = absurd (let z : true ≡ false = q in cc)
    by false q k = ap (λ l. r ∷ l) (k q)

  -- ---- case lists

  pub arms_light : (is : List ℕ) → length (left_arms as' is) ≤ length is
  arms_light [] = omega arith
  arms_light (i ∷ is) = by (arm_decides (arm_of as' i)) (arms_light is) where
    by : (o : Option Bool) → length (left_arms as' is) ≤ length is → length (left_with o i (left_arms as' is)) ≤ suc (length is)
    by (Some false) k = omega (arith, k)
    by (Some true) k = omega arith
    by None k = omega (arith, k)

  case_light : (keep : Bool) (c : SwitchCase) (cs : List SwitchCase) → cases_weight (cond (stays keep (left_arms as' c.arms)) (record { value = c.value; arms = left_arms as' c.arms } ∷ left_cases as' keep cs) (left_cases as' keep cs)) ≤ 1 + length (left_arms as' c.arms) + cases_weight (left_cases as' keep cs)
  case_light keep c cs = by (stays keep (left_arms as' c.arms)) where
    by : (b : Bool) → cases_weight (cond b (record { value = c.value; arms = left_arms as' c.arms } ∷ left_cases as' keep cs) (left_cases as' keep cs)) ≤ 1 + length (left_arms as' c.arms) + cases_weight (left_cases as' keep cs)
    by true = omega arith
    by false = omega arith

  cases_light : (keep : Bool) (cs : List SwitchCase) → cases_weight (left_cases as' keep cs) ≤ cases_weight cs
  cases_light keep [] = omega arith
  cases_light keep (c ∷ cs) = omega (arith, case_light keep c cs, arms_light c.arms, cases_light keep cs)

  -- a list that goes
  gone_light : (keep : Bool) (c : SwitchCase) (cs : List SwitchCase) → not keep && is_none c.arms ≡ true → cases_weight (left_cases as' keep (c ∷ cs)) < cases_weight (c ∷ cs)
  gone_light true c cs h = absurd (let z : false ≡ true = h in cc)
  gone_light false c cs h = by c.arms refl h where
    by : (is : List ℕ) → c.arms ≡ is → is_none is ≡ true → cases_weight (left_cases as' false (c ∷ cs)) < cases_weight (c ∷ cs)
    by [] e q =
        let gone : left_cases as' false (c ∷ cs) ≡ left_cases as' false cs = ap (λ l. cond (not (is_none (left_arms as' l))) (record { value = c.value; arms = left_arms as' l } ∷ left_cases as' false cs) (left_cases as' false cs)) e in
        subst (λ l. cases_weight l < cases_weight (c ∷ cs)) (sym gone) (omega (arith, cases_light false cs))
    by (i ∷ is) e q = absurd (let z : false ≡ true = q in cc)

  cases_lighter : (keep : Bool) (cs : List SwitchCase) → lists_shrink as' keep cs ≡ true → cases_weight (left_cases as' keep cs) < cases_weight cs
  cases_lighter keep [] h = absurd (let z : false ≡ true = h in cc)
  cases_lighter keep (c ∷ cs) h =
      either (list_shrinks as' keep c.arms) (lists_shrink as' keep cs) h
      (λ q. either (loses_arms as' c.arms) (not keep && is_none c.arms) q
      (λ p. omega (arith, case_light keep c cs, is_below _ _ p, cases_light keep cs))
      (λ p. gone_light keep c cs p))
      (λ q. omega (arith, case_light keep c cs, arms_light c.arms, cases_lighter keep cs q))

  -- a value for which no list stands
  none_left : (keep : Bool) (v : Value) (cs : List SwitchCase) → case_for cs v ≡ None → case_for (left_cases as' keep cs) v ≡ None
  none_left keep v [] h = refl
  none_left keep v (c ∷ cs) h = by (same c.value v) refl h (λ q. none_left keep v cs q) where
    other : (b : Bool) → same c.value v ≡ false → case_for (left_cases as' keep cs) v ≡ None → case_for (cond b (record { value = c.value; arms = left_arms as' c.arms } ∷ left_cases as' keep cs) (left_cases as' keep cs)) v ≡ None
    other true e q = ap (λ b. cond b (Some (left_arms as' c.arms)) (case_for (left_cases as' keep cs) v)) e ∙ q
    other false e q = q

    by : (b : Bool) → same c.value v ≡ b → cond b (Some c.arms) (case_for cs v) ≡ None → (case_for cs v ≡ None → case_for (left_cases as' keep cs) v ≡ None) → case_for (left_cases as' keep (c ∷ cs)) v ≡ None
    by true e q k = absurd (let z : Some c.arms ≡ None = q in cc)
    by false e q k = other (stays keep (left_arms as' c.arms)) e (k q)

  no_range : (qs : List SwitchRange) → has_some qs ≡ false → qs ≡ []
  no_range [] h = refl
  no_range (q ∷ qs) h = absurd (let z : true ≡ false = h in cc)

  pub cases_to : (qs : List SwitchRange) (keep : Bool) (cs : List SwitchCase) → keep ≡ has_some qs → AreDistinct cs → CasesTo as' qs cs (left_cases as' keep cs)
  cases_to qs keep [] k d = no_cases
  cases_to qs keep (c ∷ cs) k d = by keep (left_arms as' c.arms) refl refl (cases_to qs keep cs k d.1) where
    by : (b : Bool) (l : List ℕ) → keep ≡ b → left_arms as' c.arms ≡ l → CasesTo as' qs cs (left_cases as' keep cs) → CasesTo as' qs (c ∷ cs) (cond (stays b l) (record { value = c.value; arms = left_arms as' c.arms } ∷ left_cases as' keep cs) (left_cases as' keep cs))
    by true l e q z = case_shrinks z
    by false [] e q z = empty_case_goes (no_range qs (sym k ∙ e)) q (none_left keep c.value cs d.0) z
    by false (i ∷ l) e q z = case_shrinks z

-- ---- what held of all arms that were listed

module _ (as' : Arms) (Q : ℕ → Type 0) where
  pub join_arms : (is js : List ℕ) → AllArms Q is → AllArms Q js → AllArms Q (is ++ js)
  join_arms [] js h k = k
  join_arms (i ∷ is) js h k = (h.0, join_arms is js h.1 k)

  cases_still : (keep : Bool) (cs : List SwitchCase) → AllArms Q (arms_of_cases cs) → AllArms Q (arms_of_cases (left_cases as' keep cs))
  cases_still keep [] h = tt
  cases_still keep (c ∷ cs) h = by (stays keep (left_arms as' c.arms)) (cases_still keep cs (all_split Q c.arms (arms_of_cases cs) h).1) where
    by : (b : Bool) → AllArms Q (arms_of_cases (left_cases as' keep cs)) → AllArms Q (arms_of_cases (cond b (record { value = c.value; arms = left_arms as' c.arms } ∷ left_cases as' keep cs) (left_cases as' keep cs)))
    by true k = join_arms (left_arms as' c.arms) (arms_of_cases (left_cases as' keep cs)) (all_left Q as' c.arms (all_split Q c.arms (arms_of_cases cs) h).0) k
    by false k = k

  ranges_still : (rs : List SwitchRange) → AllArms Q (arms_of_ranges rs) → AllArms Q (arms_of_ranges (left_ranges as' rs))
  ranges_still [] h = tt
  ranges_still (r ∷ rs) h = by (is_false_arm as' r.arm) (ranges_still rs h.1) where
    by : (b : Bool) → AllArms Q (arms_of_ranges (left_ranges as' rs)) → AllArms Q (arms_of_ranges (cond b (left_ranges as' rs) (r ∷ left_ranges as' rs)))
    by true k = k
    by false k = (h.0, k)

  pub listed_still : (t : SwitchTable) → AllArms Q (listed t) → AllArms Q (listed (shrunk as' t))
  listed_still t h =
      let y = all_split Q (arms_of_cases t.cases ++ arms_of_ranges t.ranges) (arm_of_default t.default) h in
      let z = all_split Q (arms_of_cases t.cases) (arms_of_ranges t.ranges) y.0 in
      let keep = has_some (left_ranges as' t.ranges) in
      join_arms (arms_of_cases (left_cases as' keep t.cases) ++ arms_of_ranges (left_ranges as' t.ranges)) (arm_of_default t.default)
      (join_arms (arms_of_cases (left_cases as' keep t.cases)) (arms_of_ranges (left_ranges as' t.ranges)) (cases_still keep t.cases z.0) (ranges_still t.ranges z.1)) y.1

-- ---- tables

pub table_lighter : (as' : Arms) (t : SwitchTable) → shrinks as' t ≡ true → table_weight (shrunk as' t) < table_weight t
table_lighter as' t h = by (has_false as' t.ranges) refl where
  by : (b : Bool) → has_false as' t.ranges ≡ b → table_weight (shrunk as' t) < table_weight t
  by true e = omega (arith, ranges_lighter as' t.ranges e, cases_light as' (has_some (left_ranges as' t.ranges)) t.cases)
  by false e =
      either (lists_shrink as' (has_some t.ranges) t.cases) (has_false as' t.ranges) h
      (λ q.
      let lists = subst (λ rs. lists_shrink as' (has_some rs) t.cases ≡ true) (sym (ranges_same as' t.ranges e)) q in
      omega (arith, ranges_light as' t.ranges, cases_lighter as' (has_some (left_ranges as' t.ranges)) t.cases lists))
      (λ q. absurd (let z : true ≡ false = sym q ∙ e in cc))
