-- A table of a `switch` that got smaller fits the arms as it did.
use Rattle.std.proofs.Common.{◌≡◌, ℕ, Bool, true, false, List, [], ◌∷◌, Option, Some, None, refl, ap, ◌∙◌}
use Rattle.std.specs.Prelude.{◌&&◌, ◌||◌, ◌==◌, not, nat_lt}
use Rattle.base_tokens.specs.Names.{are_all}
use Rattle.rhai_base.specs.Value.{is_hashable}
use Rattle.theory_meaning.specs.Shape.{condition_at, names_arm, case_fits, spares, default_fits, is_table}
use Rattle.theory_meaning.specs.Tree.{SwitchCase, SwitchRange, SwitchTable, Arms, count_arms}
use Rattle.theory_meaning.proofs.PureTrees.{split}
use Rattle.theory_rewriting.specs.Tables.{arm_of, arm_decides, left_with, left_arms}
use Rattle.theory_rewriting.proofs.rules.Shrunk.{RangesTo, no_ranges, range_stays, false_range_goes, CasesTo, no_cases, case_shrinks, empty_case_goes}

pub join : (a b : Bool) → a ≡ true → b ≡ true → a && b ≡ true
join a b h k = ap (λ x. x && b) h ∙ k

-- ---- what holds of every arm of a list holds of those that are left

all_with : (p : ℕ → Bool) (o : Option Bool) (i : ℕ) (is : List ℕ) → p i ≡ true → are_all p is ≡ true → are_all p (left_with o i is) ≡ true
all_with p (Some false) i is h k = k
all_with p (Some true) i is h k = join (p i) true h refl
all_with p None i is h k = join (p i) (are_all p is) h k

all_left : (p : ℕ → Bool) (as' : Arms) (is : List ℕ) → are_all p is ≡ true → are_all p (left_arms as' is) ≡ true
all_left p as' [] h = refl
all_left p as' (i ∷ is) h = let z = split (p i) (are_all p is) h in all_with p (arm_decides (arm_of as' i)) i (left_arms as' is) z.0 (all_left p as' is z.1)

-- a list that doesn't name an arm
unnamed : (d i : ℕ) (is : List ℕ) → not (names_arm d (i ∷ is)) ≡ true → (not (d == i) ≡ true) × (not (names_arm d is) ≡ true)
unnamed d i is h = by (d == i) h where
  by : (b : Bool) → not (b || names_arm d is) ≡ true → (not b ≡ true) × (not (names_arm d is) ≡ true)
  by true h = absurd (let z : false ≡ true = h in cc)
  by false h = (refl, h)

unnamed_all : (d : ℕ) (is : List ℕ) → not (names_arm d is) ≡ true → are_all (λ i. not (d == i)) is ≡ true
unnamed_all d [] h = refl
unnamed_all d (i ∷ is) h = let z = unnamed d i is h in join (not (d == i)) (are_all (λ j. not (d == j)) is) z.0 (unnamed_all d is z.1)

all_unnamed : (d : ℕ) (is : List ℕ) → are_all (λ i. not (d == i)) is ≡ true → not (names_arm d is) ≡ true
all_unnamed d [] h = refl
all_unnamed d (i ∷ is) h = let z = split (not (d == i)) (are_all (λ j. not (d == j)) is) h in by (d == i) z.0 (all_unnamed d is z.1) where
  by : (b : Bool) → not b ≡ true → not (names_arm d is) ≡ true → not (b || names_arm d is) ≡ true
  by true h k = h
  by false h k = k

-- ---- of case lists, and of ranges

module _ (as' : Arms) where
  ranges_all : (p : SwitchRange → Bool) {rs qs : List SwitchRange} → RangesTo as' rs qs → are_all p rs ≡ true → are_all p qs ≡ true
  ranges_all p no_ranges h = h
  ranges_all p (range_stays {r = r} {rs = rs} {qs = qs} q) h = let z = split (p r) (are_all p rs) h in join (p r) (are_all p qs) z.0 (ranges_all p q z.1)
  ranges_all p (false_range_goes {r = r} {rs = rs} x q) h = ranges_all p q (split (p r) (are_all p rs) h).1

  -- what holds of a case list holds of it with the arms that are left
  abbrev pub Shrinks : (SwitchCase → Bool) → Type 0
  Shrinks p = (c : SwitchCase) → p c ≡ true → p (record { value = c.value; arms = left_arms as' c.arms }) ≡ true

  cases_all : (p : SwitchCase → Bool) → Shrinks p → {qs : List SwitchRange} {cs ds : List SwitchCase} → CasesTo as' qs cs ds → are_all p cs ≡ true → are_all p ds ≡ true
  cases_all p s no_cases h = h
  cases_all p s (case_shrinks {v = v} {is = is} {cs = cs} {ds = ds} q) h =
      let c : SwitchCase = record { value = v; arms = is } in
      let z = split (p c) (are_all p cs) h in join (p (record { value = v; arms = left_arms as' is })) (are_all p ds) (s c z.0) (cases_all p s q z.1)
  cases_all p s (empty_case_goes {v = v} {is = is} {cs = cs} x y r q) h = cases_all p s q (split (p (record { value = v; arms = is })) (are_all p cs) h).1

  case_fits_still : (n : ℕ) → Shrinks (case_fits n)
  case_fits_still n c h =
      let z = split (is_hashable c.value) (are_all (λ i. nat_lt i n) c.arms) h in
      join (is_hashable c.value) (are_all (λ i. nat_lt i n) (left_arms as' c.arms)) z.0 (all_left (λ i. nat_lt i n) as' c.arms z.1)

  case_spares_still : (d : ℕ) → Shrinks (λ c. not (names_arm d c.arms))
  case_spares_still d c h = all_unnamed d (left_arms as' c.arms) (all_left (λ i. not (d == i)) as' c.arms (unnamed_all d c.arms h))

  -- ---- and of the table

  -- of cases and ranges of which all holds that held of the table's
  module _ (t : SwitchTable) (cs : List SwitchCase) (qs : List SwitchRange) (cases_hold : (p : SwitchCase → Bool) → Shrinks p → are_all p t.cases ≡ true → are_all p cs ≡ true) (ranges_hold : (p : SwitchRange → Bool) → are_all p t.ranges ≡ true → are_all p qs ≡ true) where
    abbrev smaller : SwitchTable
    smaller = record { cases = cs; ranges = qs; default = t.default }

    default_still : (o : Option ℕ) → default_fits as' t o ≡ true → default_fits as' smaller o ≡ true
    default_still None h = h
    default_still (Some d) h =
        let y = split (nat_lt d (count_arms as') && condition_at as' d) (spares d t) h in
        let z = split (are_all (λ l. not (names_arm d l.arms)) t.cases) (are_all (λ r. not (r.arm == d)) t.ranges) y.1 in
        join (nat_lt d (count_arms as') && condition_at as' d) (spares d smaller) y.0
        (join (are_all (λ l. not (names_arm d l.arms)) cs) (are_all (λ r. not (r.arm == d)) qs) (cases_hold (λ l. not (names_arm d l.arms)) (case_spares_still d) z.0) (ranges_hold (λ r. not (r.arm == d)) z.1))

    pub fits_smaller : is_table as' t ≡ true → is_table as' smaller ≡ true
    fits_smaller h =
        let n = count_arms as' in
        let y = split (are_all (case_fits n) t.cases && are_all (λ r. nat_lt r.arm n) t.ranges) (default_fits as' t t.default) h in
        let z = split (are_all (case_fits n) t.cases) (are_all (λ r. nat_lt r.arm n) t.ranges) y.0 in
        join (are_all (case_fits n) cs && are_all (λ r. nat_lt r.arm n) qs) (default_fits as' smaller t.default)
        (join (are_all (case_fits n) cs) (are_all (λ r. nat_lt r.arm n) qs) (cases_hold (case_fits n) (case_fits_still n) z.0) (ranges_hold (λ r. nat_lt r.arm n) z.1))
        (default_still t.default y.1)

  pub fits_still : (t : SwitchTable) (cs : List SwitchCase) (qs : List SwitchRange) → CasesTo as' qs t.cases cs → RangesTo as' t.ranges qs → is_table as' t ≡ true → is_table as' (record { cases = cs; ranges = qs; default = t.default }) ≡ true
  fits_still t cs qs q p = fits_smaller t cs qs (λ r s. cases_all r s q) (λ r. ranges_all r p)
