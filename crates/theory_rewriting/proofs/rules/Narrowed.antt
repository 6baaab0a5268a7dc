-- A table of which something goes over a constant subject: what is chosen stays, and it is lighter.
use Rattle.std.proofs.Common.{◌≡◌, ℕ, suc, ◌+◌, ◌<◌, ◌≤◌, Bool, true, false, cond, not, List, [], ◌∷◌, ◌++◌, Option, Some, None, length, refl, sym, ap, ◌∙◌, subst, arith}
use Rattle.std.specs.Prelude.{◌||◌}
use Rattle.std.specs.Option.{option_map}
use Rattle.base_tokens.specs.Names.{are_all}
use Rattle.rhai_base.specs.Value.{Value, same, is_hashable}
use Rattle.theory_meaning.specs.Control.{holds, ranges_with, case_for, or_ranges, chosen}
use Rattle.theory_meaning.specs.Shape.{is_table}
use Rattle.theory_meaning.specs.Tree.{Arms, SwitchCase, SwitchRange, SwitchTable}
use Rattle.theory_meaning.specs.Walk.{arms_of_cases, arms_of_ranges, arm_of_default, listed}
use Rattle.theory_meaning.specs.Weight.{cases_weight, table_weight}
use Rattle.theory_meaning.proofs.PureTrees.{split}
use Rattle.theory_rewriting.specs.Tables.{arm_of, arm_decides, left_with, left_arms}
use Rattle.theory_rewriting.specs.Shrinking.{loses_arms, has_some}
use Rattle.theory_rewriting.specs.Narrowing.{has_other, only_cases, range_with, only_ranges, loses_ranges, has_case, narrows_by, narrowed_by}
use Rattle.theory_rewriting.proofs.rules.Arms.{AllArms, all_split, all_left}
use Rattle.theory_rewriting.proofs.rules.Fitting.{Shrinks, join, fits_smaller}
use Rattle.theory_rewriting.proofs.rules.Shrunk.{either, is_below, arms_light, join_arms}

module _ (as' : Arms) (v : Value) where
  -- ---- what is chosen

  only_case : (cs : List SwitchCase) → case_for (only_cases as' v cs) v ≡ option_map (left_arms as') (case_for cs v)
  only_case [] = refl
  only_case (c ∷ cs) = by (same c.value v) refl (only_case cs) where
    by : (b : Bool) → same c.value v ≡ b → case_for (only_cases as' v cs) v ≡ option_map (left_arms as') (case_for cs v) → case_for (cond b (record { value = c.value; arms = left_arms as' c.arms } ∷ only_cases as' v cs) (only_cases as' v cs)) v ≡ option_map (left_arms as') (cond b (Some c.arms) (case_for cs v))
    by true e k = ap (λ b. cond b (Some (left_arms as' c.arms)) (case_for (only_cases as' v cs) v)) e
    by false e k = k

  only_held : (rs : List SwitchRange) → ranges_with (only_ranges as' v rs) v ≡ left_arms as' (ranges_with rs v)
  only_held [] = refl
  only_held (r ∷ rs) = by (holds r.range v) refl (only_held rs) where
    within : (d : Option Bool) → holds r.range v ≡ true → ranges_with (only_ranges as' v rs) v ≡ left_arms as' (ranges_with rs v) → ranges_with (range_with d r (only_ranges as' v rs)) v ≡ left_with d r.arm (left_arms as' (ranges_with rs v))
    within (Some false) e k = k
    within (Some true) e k = ap (λ b. cond b (r.arm ∷ []) []) e
    within None e k = ap (λ b. cond b (r.arm ∷ ranges_with (only_ranges as' v rs) v) (ranges_with (only_ranges as' v rs) v)) e ∙ ap (λ l. r.arm ∷ l) k

    by : (b : Bool) → holds r.range v ≡ b → ranges_with (only_ranges as' v rs) v ≡ left_arms as' (ranges_with rs v) → ranges_with (cond b (range_with (arm_decides (arm_of as' r.arm)) r (only_ranges as' v rs)) (only_ranges as' v rs)) v ≡ left_arms as' (cond b (r.arm ∷ ranges_with rs v) (ranges_with rs v))
    by true e k = within (arm_decides (arm_of as' r.arm)) e k
    by false e k = k

  -- ---- what held of all that was there

  module _ (Q : ℕ → Type 0) where
    arms_kept : (cs : List SwitchCase) → AllArms Q (arms_of_cases cs) → AllArms Q (arms_of_cases (only_cases as' v cs))
    arms_kept [] h = tt
    arms_kept (c ∷ cs) h = by (same c.value v) (arms_kept cs (all_split Q c.arms (arms_of_cases cs) h).1) where
      by : (b : Bool) → AllArms Q (arms_of_cases (only_cases as' v cs)) → AllArms Q (arms_of_cases (cond b (record { value = c.value; arms = left_arms as' c.arms } ∷ only_cases as' v cs) (only_cases as' v cs)))
      by true k = join_arms as' Q (left_arms as' c.arms) (arms_of_cases (only_cases as' v cs)) (all_left Q as' c.arms (all_split Q c.arms (arms_of_cases cs) h).0) k
      by false k = k

    held_kept : (rs : List SwitchRange) → AllArms Q (arms_of_ranges rs) → AllArms Q (arms_of_ranges (only_ranges as' v rs))
    held_kept [] h = tt
    held_kept (r ∷ rs) h = by (holds r.range v) (held_kept rs h.1) where
      within : (d : Option Bool) → AllArms Q (arms_of_ranges (only_ranges as' v rs)) → AllArms Q (arms_of_ranges (range_with d r (only_ranges as' v rs)))
      within (Some false) k = k
      within (Some true) k = (h.0, tt)
      within None k = (h.0, k)

      by : (b : Bool) → AllArms Q (arms_of_ranges (only_ranges as' v rs)) → AllArms Q (arms_of_ranges (cond b (range_with (arm_decides (arm_of as' r.arm)) r (only_ranges as' v rs)) (only_ranges as' v rs)))
      by true k = within (arm_decides (arm_of as' r.arm)) k
      by false k = k

    pub listed_kept : (t : SwitchTable) (o : Option (List ℕ)) → AllArms Q (listed t) → AllArms Q (listed (narrowed_by as' t v o))
    listed_kept t o h = by o where
      by : (o : Option (List ℕ)) → AllArms Q (listed (narrowed_by as' t v o))
      by (Some is) =
          let y = all_split Q (arms_of_cases t.cases ++ arms_of_ranges t.ranges) (arm_of_default t.default) h in
          let z = all_split Q (arms_of_cases t.cases) (arms_of_ranges t.ranges) y.0 in
          join_arms as' Q (arms_of_cases (only_cases as' v t.cases) ++ []) (arm_of_default t.default) (join_arms as' Q (arms_of_cases (only_cases as' v t.cases)) [] (arms_kept t.cases z.0) tt) y.1
      by None =
          let y = all_split Q (arms_of_cases t.cases ++ arms_of_ranges t.ranges) (arm_of_default t.default) h in
          let z = all_split Q (arms_of_cases t.cases) (arms_of_ranges t.ranges) y.0 in
          join_arms as' Q (arms_of_ranges (only_ranges as' v t.ranges)) (arm_of_default t.default) (held_kept t.ranges z.1) y.1

  cases_kept : (p : SwitchCase → Bool) → Shrinks as' p → (cs : List SwitchCase) → are_all p cs ≡ true → are_all p (only_cases as' v cs) ≡ true
  cases_kept p s [] h = refl
  cases_kept p s (c ∷ cs) h = by (same c.value v) (cases_kept p s cs (split (p c) (are_all p cs) h).1) where
    by : (b : Bool) → are_all p (only_cases as' v cs) ≡ true → are_all p (cond b (record { value = c.value; arms = left_arms as' c.arms } ∷ only_cases as' v cs) (only_cases as' v cs)) ≡ true
    by true k = join (p (record { value = c.value; arms = left_arms as' c.arms })) (are_all p (only_cases as' v cs)) (s c (split (p c) (are_all p cs) h).0) k
    by false k = k

  ranges_kept : (p : SwitchRange → Bool) (rs : List SwitchRange) → are_all p rs ≡ true → are_all p (only_ranges as' v rs) ≡ true
  ranges_kept p [] h = refl
  ranges_kept p (r ∷ rs) h = by (holds r.range v) (ranges_kept p rs (split (p r) (are_all p rs) h).1) where
    within : (d : Option Bool) → are_all p (only_ranges as' v rs) ≡ true → are_all p (range_with d r (only_ranges as' v rs)) ≡ true
    within (Some false) k = k
    within (Some true) k = join (p r) true (split (p r) (are_all p rs) h).0 refl
    within None k = join (p r) (are_all p (only_ranges as' v rs)) (split (p r) (are_all p rs) h).0 k

    by : (b : Bool) → are_all p (only_ranges as' v rs) ≡ true → are_all p (cond b (range_with (arm_decides (arm_of as' r.arm)) r (only_ranges as' v rs)) (only_ranges as' v rs)) ≡ true
    by true k = within (arm_decides (arm_of as' r.arm)) k
    by false k = k

  pub fits_narrowed : (t : SwitchTable) (o : Option (List ℕ)) → is_table as' t ≡ true → is_table as' (narrowed_by as' t v o) ≡ true
  fits_narrowed t (Some is) h = fits_smaller as' t (only_cases as' v t.cases) [] (λ p s. cases_kept p s t.cases) (λ p i. refl) h
  fits_narrowed t None h = fits_smaller as' t [] (only_ranges as' v t.ranges) (λ p s i. refl) (λ p. ranges_kept p t.ranges) h

  -- ---- weights

  only_light : (cs : List SwitchCase) → cases_weight (only_cases as' v cs) ≤ cases_weight cs
  only_light [] = omega arith
  only_light (c ∷ cs) = by (same c.value v) (only_light cs) where
    by : (b : Bool) → cases_weight (only_cases as' v cs) ≤ cases_weight cs → cases_weight (cond b (record { value = c.value; arms = left_arms as' c.arms } ∷ only_cases as' v cs) (only_cases as' v cs)) ≤ 1 + length c.arms + cases_weight cs
    by true k = omega (arith, arms_light as' c.arms, k)
    by false k = omega (arith, k)

  other_goes : (cs : List SwitchCase) → has_other v cs ≡ true → cases_weight (only_cases as' v cs) < cases_weight cs
  other_goes [] h = absurd (let z : false ≡ true = h in cc)
  other_goes (c ∷ cs) h = by (same c.value v) h (λ q. other_goes cs q) where
    by : (b : Bool) → not b || has_other v cs ≡ true → (has_other v cs ≡ true → cases_weight (only_cases as' v cs) < cases_weight cs) → cases_weight (cond b (record { value = c.value; arms = left_arms as' c.arms } ∷ only_cases as' v cs) (only_cases as' v cs)) < 1 + length c.arms + cases_weight cs
    by true q k = omega (arith, arms_light as' c.arms, k q)
    by false q k = omega (arith, only_light cs)

  abbrev given_or : List ℕ → Option (List ℕ) → List ℕ
  given_or is None = is
  given_or is (Some l) = l

  -- the list of the value loses arms
  list_goes : (cs : List SwitchCase) (is : List ℕ) → case_for cs v ≡ Some is → loses_arms as' is ≡ true → cases_weight (only_cases as' v cs) < cases_weight cs
  list_goes [] is e h = absurd (let z : None ≡ Some is = e in cc)
  list_goes (c ∷ cs) is e h = by (same c.value v) e (λ q. list_goes cs is q h) where
    by : (b : Bool) → cond b (Some c.arms) (case_for cs v) ≡ Some is → (case_for cs v ≡ Some is → cases_weight (only_cases as' v cs) < cases_weight cs) → cases_weight (cond b (record { value = c.value; arms = left_arms as' c.arms } ∷ only_cases as' v cs) (only_cases as' v cs)) < 1 + length c.arms + cases_weight cs
    by true q k =
        let here : length (left_arms as' c.arms) < length c.arms = subst (λ l. length (left_arms as' l) < length l) (sym (ap (given_or is) q)) (is_below _ _ h) in
        omega (arith, here, only_light cs)
    by false q k = omega (arith, k q)

  some_there : (rs : List SwitchRange) → has_some rs ≡ true → 0 < length rs
  some_there [] h = absurd (let z : false ≡ true = h in cc)
  some_there (r ∷ rs) h = omega arith

  case_there : (cs : List SwitchCase) → has_case cs ≡ true → 0 < cases_weight cs
  case_there [] h = absurd (let z : false ≡ true = h in cc)
  case_there (c ∷ cs) h = omega arith

  held_light : (rs : List SwitchRange) → length (only_ranges as' v rs) ≤ length rs
  held_light [] = omega arith
  held_light (r ∷ rs) = by (holds r.range v) (held_light rs) where
    within : (d : Option Bool) → length (only_ranges as' v rs) ≤ length rs → length (range_with d r (only_ranges as' v rs)) ≤ suc (length rs)
    within (Some false) k = omega (arith, k)
    within (Some true) k = omega arith
    within None k = omega (arith, k)

    by : (b : Bool) → length (only_ranges as' v rs) ≤ length rs → length (cond b (range_with (arm_decides (arm_of as' r.arm)) r (only_ranges as' v rs)) (only_ranges as' v rs)) ≤ suc (length rs)
    by true k = within (arm_decides (arm_of as' r.arm)) k
    by false k = omega (arith, k)

  pub narrowed_lighter : (t : SwitchTable) (o : Option (List ℕ)) → case_for t.cases v ≡ o → narrows_by as' t v o ≡ true → table_weight (narrowed_by as' t v o) < table_weight t
  narrowed_lighter t (Some is) e h =
      either (loses_arms as' is) (has_some t.ranges || has_other v t.cases) h
      (λ q. omega (arith, list_goes t.cases is e q))
      (λ q. either (has_some t.ranges) (has_other v t.cases) q
      (λ p. omega (arith, some_there t.ranges p, only_light t.cases))
      (λ p. omega (arith, other_goes t.cases p)))
  narrowed_lighter t None e h =
      either (has_case t.cases) (loses_ranges as' v t.ranges) h
      (λ q. omega (arith, case_there t.cases q, held_light t.ranges))
      (λ q. omega (arith, is_below _ _ q))

  -- ---- what is chosen stays

  chosen_same : (t : SwitchTable) (o : Option (List ℕ)) → is_hashable v ≡ true → case_for t.cases v ≡ o → chosen (narrowed_by as' t v o) v ≡ left_arms as' (or_ranges t v o)
  chosen_same t (Some is) h e =
      let t' : SwitchTable = narrowed_by as' t v (Some is) in
      ap (λ b. or_ranges t' v (cond b (case_for (only_cases as' v t.cases) v) None)) h
      ∙ ap (or_ranges t' v) (only_case t.cases ∙ ap (option_map (left_arms as')) e)
  chosen_same t None h e =
      let t' : SwitchTable = narrowed_by as' t v None in
      ap (λ b. or_ranges t' v (cond b None None)) h ∙ only_held t.ranges

  chosen_for : (t : SwitchTable) (o : Option (List ℕ)) → is_hashable v ≡ true → case_for t.cases v ≡ o → chosen t v ≡ or_ranges t v o
  chosen_for t o h e = ap (λ b. or_ranges t v (cond b (case_for t.cases v) None)) h ∙ ap (or_ranges t v) e

  pub chosen_narrowed : (t : SwitchTable) (o : Option (List ℕ)) → is_hashable v ≡ true → case_for t.cases v ≡ o → chosen (narrowed_by as' t v o) v ≡ left_arms as' (chosen t v)
  chosen_narrowed t o h e = chosen_same t o h e ∙ sym (ap (left_arms as') (chosen_for t o h e))

  pub default_same : (t : SwitchTable) (o : Option (List ℕ)) → (narrowed_by as' t v o).default ≡ t.default
  default_same t (Some is) = refl
  default_same t None = refl
