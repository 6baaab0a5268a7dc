-- Case lists and ranges as they are declared, and what is kept of them.
use Rattle.std.proofs.Common.{◌≡◌, ℕ, suc, length, take, Bool, true, false, cond, not, List, [], ◌∷◌, map, filter, Option, Some, None, is_some, refl, sym, ap, ◌∙◌, subst}
use Rattle.std.specs.List.{list_any, AllByRecursion, IsDistinct}
use Rattle.std.specs.Map.{keys_of}
use Rattle.std.specs.Map.Calls.{RetainsPairs}
use Rattle.std.specs.Option.{option_map}
use Rattle.std.specs.Prelude.{◌||◌, ◌&&◌, ◌==◌, if◌then◌else◌}
use Rattle.rhai_base.proofs.Exact.{equal}
use Rattle.rhai_base.specs.declared.dynamic.Dynamic.{Dynamic}
use Rattle.rhai_base.specs.Reading.{value_of}
use Rattle.rhai_base.specs.Value.{Value, same}
use Rattle.rhai_base.specs.Ranges.{holds_value, index_of}
use Rattle.rhai_base.specs.declared.cases.CaseBlocksList.{CaseBlocksList}
use Rattle.rhai_base.specs.declared.range_case.RangeCase.{RangeCase}
use Rattle.theory_meaning.specs.Control.{case_for}
use Rattle.theory_meaning.specs.Tree.{Arms}
use Rattle.ast_nodes.proofs.Listed.{listed_is}
use Rattle.ast_types.specs.Reading.{case_of, range_of}
use Rattle.theory_meaning.specs.Walk.{arms_of_ranges}
use Rattle.theory_rewriting.specs.Answering.{is_that}
use Rattle.theory_rewriting.specs.Tables.{arm_of, arm_decides, left_with, left_arms}
use Rattle.opt_switch.proofs.Choosing.{held_is}
use Rattle.opt_switch.proofs.Forgotten.{unequal}
use Rattle.opt_switch.proofs.Places.{place_is}
use Rattle.theory_rewriting.specs.Narrowing.{has_other, only_cases, range_with, only_ranges, has_case}
use Rattle.theory_rewriting.specs.Shrinking.{AreDistinct, is_false_arm, left_ranges, has_some, list_shrinks, lists_shrink, stays, left_cases}
use Rattle.opt_switch.specs.Ends.{ends_with, end_of}

-- ---- keys

-- two keys are equal where they are the same value
pub equal_tells : (x y : Dynamic) → equal x y ≡ same (value_of y) (value_of x)
equal_tells x y = sym (by_if (equal x y)) ∙ ap is_some (listed_is ((y, none) ∷ []) x) ∙ by_cond (same (value_of y) (value_of x)) where
  none : CaseBlocksList
  none = record { blocks = [] }

  by_if : (b : Bool) → is_some (option_map (λ (l : CaseBlocksList). l.blocks) (if b then Some none else None)) ≡ b
  by_if true = refl
  by_if false = refl

  by_cond : (b : Bool) → is_some (cond b (Some none.blocks) None) ≡ b
  by_cond true = refl
  by_cond false = refl

none_same : (x : Dynamic) (es : List (Dynamic × CaseBlocksList)) → AllByRecursion (λ y. equal x y ≡ false) (keys_of es) → case_for (map case_of es) (value_of x) ≡ None
none_same x [] h = refl
none_same x (e ∷ es) h = ap (λ b. cond b (Some e.1.blocks) (case_for (map case_of es) (value_of x))) (sym (equal_tells x e.0) ∙ h.0) ∙ none_same x es h.1

pub all_distinct : (es : List (Dynamic × CaseBlocksList)) → IsDistinct equal (keys_of es) → AreDistinct (map case_of es)
unfolding IsDistinct
all_distinct [] h = tt
all_distinct (e ∷ es) h = (none_same e.0 es h.0, all_distinct es h.1)

-- ---- tests of them

pub some_shrink : (as' : Arms) (keep : Bool) (es : List (Dynamic × CaseBlocksList)) → list_any (λ (e : Dynamic × CaseBlocksList). list_shrinks as' keep e.1.blocks) es ≡ lists_shrink as' keep (map case_of es)
some_shrink as' keep [] = refl
some_shrink as' keep (e ∷ es) = ap (λ b. list_shrinks as' keep e.1.blocks || b) (some_shrink as' keep es)

pub some_other : (v : Value) (es : List (Dynamic × CaseBlocksList)) → list_any (λ (e : Dynamic × CaseBlocksList). not (same (value_of e.0) v)) es ≡ has_other v (map case_of es)
some_other v [] = refl
some_other v (e ∷ es) = ap (λ b. not (same (value_of e.0) v) || b) (some_other v es)

-- ---- what `retain` keeps of them

module _ {F : Type 0} (T : F → Dynamic → CaseBlocksList → Bool → CaseBlocksList → F → Type 0) (f : F) (as' : Arms) where
  pub left_kept : (keep : Bool) → ((k : Dynamic) (u : CaseBlocksList) (b : Bool) (w : CaseBlocksList) (g : F) → T f k u b w g → (w.blocks ≡ left_arms as' u.blocks) × (b ≡ stays keep w.blocks) × (g ≡ f)) → (es kept : List (Dynamic × CaseBlocksList)) → RetainsPairs T f es kept → map case_of kept ≡ left_cases as' keep (map case_of es)
  left_kept keep says [] kept h = ap (map case_of) h
  left_kept keep says (e ∷ es) kept h =
      let s = says e.0 e.1 h.0 h.1 h.2 h.4 in
      let rest = left_kept keep says es h.3 (subst (λ g. RetainsPairs T g es h.3) s.2 h.5) in
      ap (map case_of) h.6
      ∙ of_cond h.0 ((e.0, h.1) ∷ h.3) h.3
      ∙ (λ i. cond (s.1 i) (record { value = value_of e.0; arms = s.0 i } ∷ rest i) (rest i))
      ∙ ap (λ l. cond (stays keep l) (record { value = value_of e.0; arms = left_arms as' e.1.blocks } ∷ left_cases as' keep (map case_of es)) (left_cases as' keep (map case_of es))) s.0
    where
      of_cond : (b : Bool) (xs ys : List (Dynamic × CaseBlocksList)) → map case_of (cond b xs ys) ≡ cond b (map case_of xs) (map case_of ys)
      of_cond true xs ys = refl
      of_cond false xs ys = refl

  pub only_kept : (v : Value) → ((k : Dynamic) (u : CaseBlocksList) (b : Bool) (w : CaseBlocksList) (g : F) → T f k u b w g → (w.blocks ≡ left_arms as' u.blocks) × (b ≡ same (value_of k) v) × (g ≡ f)) → (es kept : List (Dynamic × CaseBlocksList)) → RetainsPairs T f es kept → map case_of kept ≡ only_cases as' v (map case_of es)
  only_kept v says [] kept h = ap (map case_of) h
  only_kept v says (e ∷ es) kept h =
      let s = says e.0 e.1 h.0 h.1 h.2 h.4 in
      let rest = only_kept v says es h.3 (subst (λ g. RetainsPairs T g es h.3) s.2 h.5) in
      ap (map case_of) h.6
      ∙ of_cond h.0 ((e.0, h.1) ∷ h.3) h.3
      ∙ (λ i. cond (s.1 i) (record { value = value_of e.0; arms = s.0 i } ∷ rest i) (rest i))
    where
      of_cond : (b : Bool) (xs ys : List (Dynamic × CaseBlocksList)) → map case_of (cond b xs ys) ≡ cond b (map case_of xs) (map case_of ys)
      of_cond true xs ys = refl
      of_cond false xs ys = refl

-- ---- ranges

abbrev pub is_open_range : Arms → RangeCase → Bool
is_open_range as' r = not (is_false_arm as' (index_of r))

pub open_ranges : (as' : Arms) (rs : List RangeCase) → map range_of (filter (is_open_range as') rs) ≡ left_ranges as' (map range_of rs)
open_ranges as' [] = refl
open_ranges as' (r ∷ rs) = by (is_false_arm as' (index_of r)) (open_ranges as' rs) ∙ ap (λ i. cond (is_false_arm as' i) (left_ranges as' (map range_of rs)) (range_of r ∷ left_ranges as' (map range_of rs))) (place_is r) where
  by : (b : Bool) → map range_of (filter (is_open_range as') rs) ≡ left_ranges as' (map range_of rs) → map range_of (if not b then r ∷ filter (is_open_range as') rs else filter (is_open_range as') rs) ≡ cond b (left_ranges as' (map range_of rs)) (range_of r ∷ left_ranges as' (map range_of rs))
  by true k = k
  by false k = ap (λ l. range_of r ∷ l) k

-- those that hold a value, up to the first true one
abbrev pub is_held : Arms → Value → RangeCase → Bool
is_held as' v r = holds_value r v && not (is_false_arm as' (index_of r))

abbrev pub up_to : Arms → List RangeCase → List RangeCase
up_to as' rs = take (end_of as' (arms_of_ranges (map range_of rs))) rs

pub held_ranges : (as' : Arms) (v : Value) (rs : List RangeCase) → map range_of (up_to as' (filter (is_held as' v) rs)) ≡ only_ranges as' v (map range_of rs)
held_ranges as' v [] = refl
held_ranges as' v (r ∷ rs) =
    by (holds_value r v) (arm_decides (arm_of as' (index_of r))) (held_ranges as' v rs) refl
    ∙ ap (λ i. cond (holds_value r v) (range_with (arm_decides (arm_of as' i)) (range_of r) (only_ranges as' v (map range_of rs))) (only_ranges as' v (map range_of rs))) (place_is r)
    ∙ ap (λ b. cond b (range_with (arm_decides (arm_of as' (range_of r).arm)) (range_of r) (only_ranges as' v (map range_of rs))) (only_ranges as' v (map range_of rs))) (held_is r v)
  where
    F : List RangeCase
    F = filter (is_held as' v) rs

    by : (b : Bool) (o : Option Bool) → map range_of (up_to as' (filter (is_held as' v) rs)) ≡ only_ranges as' v (map range_of rs) → arm_decides (arm_of as' (index_of r)) ≡ o → map range_of (up_to as' (if b && not (is_that false o) then r ∷ filter (is_held as' v) rs else filter (is_held as' v) rs)) ≡ cond b (range_with o (range_of r) (only_ranges as' v (map range_of rs))) (only_ranges as' v (map range_of rs))
    by false o k e = k
    by true (Some false) k e = k
    by true (Some true) k e = ap (λ n. map range_of (take n (r ∷ F))) (ap (λ i. ends_with (arm_decides (arm_of as' i)) (end_of as' (arms_of_ranges (map range_of F)))) (sym (place_is r)) ∙ ap (λ o. ends_with o (end_of as' (arms_of_ranges (map range_of F)))) e)
    by true None k e =
        ap (λ n. map range_of (take n (r ∷ F))) (ap (λ i. ends_with (arm_decides (arm_of as' i)) (end_of as' (arms_of_ranges (map range_of F)))) (sym (place_is r)) ∙ ap (λ o. ends_with o (end_of as' (arms_of_ranges (map range_of F)))) e)
        ∙ ap (λ l. range_of r ∷ l) k

-- ---- arms of a list

abbrev pub is_open_arm : Arms → ℕ → Bool
is_open_arm as' i = not (is_false_arm as' i)

pub left_of : (as' : Arms) (is : List ℕ) → filter (is_open_arm as') (take (end_of as' is) is) ≡ left_arms as' is
left_of as' [] = refl
left_of as' (i ∷ is) = by (arm_decides (arm_of as' i)) (left_of as' is) refl where
  by : (o : Option Bool) → filter (is_open_arm as') (take (end_of as' is) is) ≡ left_arms as' is → arm_decides (arm_of as' i) ≡ o → filter (is_open_arm as') (take (ends_with o (end_of as' is)) (i ∷ is)) ≡ left_with o i (left_arms as' is)
  by (Some false) k e = ap (λ o. if not (is_that false o) then i ∷ filter (is_open_arm as') (take (end_of as' is) is) else filter (is_open_arm as') (take (end_of as' is) is)) e ∙ k
  by (Some true) k e = ap (λ o. if not (is_that false o) then i ∷ [] else []) e
  by None k e = ap (λ o. if not (is_that false o) then i ∷ filter (is_open_arm as') (take (end_of as' is) is) else filter (is_open_arm as') (take (end_of as' is) is)) e ∙ ap (λ l. i ∷ l) k

-- ---- whether there is one

pub some_ranges : (rs : List RangeCase) → not (length rs == 0) ≡ has_some (map range_of rs)
some_ranges [] = refl
some_ranges (r ∷ rs) = ap not (unequal (suc (length rs)) 0 (λ e. let z : suc (length rs) ≡ 0 = e in cc))

pub some_cases : (es : List (Dynamic × CaseBlocksList)) → not (length es == 0) ≡ has_case (map case_of es)
some_cases [] = refl
some_cases (e ∷ es) = ap not (unequal (suc (length es)) 0 (λ h. let z : suc (length es) ≡ 0 = h in cc))
