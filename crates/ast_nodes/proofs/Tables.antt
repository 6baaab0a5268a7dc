-- The arms that a table of a `switch` lists, and those that the declared table holds.
use Rattle.std.proofs.Common.{◌≡◌, ℕ, zero, suc, Bool, true, ◌&&◌, List, [], ◌∷◌, ◌++◌, slice_get, map, ◌+◌, ◌<◌, length, get_or, drop, add-one, refl, sym, ap, ◌∙◌}
use Rattle.std.proofs.Math.Seq.{drop-cons, drop-length}
use Rattle.rhai_base.specs.declared.range_case.RangeCase.{RangeCase}
use Rattle.rhai_base.specs.Ranges.{index_of}
use Rattle.ast_types.specs.declared.expr.BinaryExpr.{BinaryExpr}
use Rattle.theory_meaning.specs.Queries.{ArmPurity, answer_is_pure, arm_purities, is_pure_arm, listed_arms_are_pure}
use Rattle.theory_meaning.specs.Walk.{arm_at, arms_of_ranges}
use Rattle.ast_types.specs.Reading.{arms_of, range_of}
use Rattle.theory_meaning.proofs.Truth.{and_assoc}
use Rattle.ast_types.proofs.Ranges.{range_arm}
use Rattle.ast_nodes.specs.Arms.{has_pure_answer, is_pure_if_any}

-- one list of places after another
pub listed_append : (ps : List ArmPurity) (is js : List ℕ) → listed_arms_are_pure ps (is ++ js) ≡ (listed_arms_are_pure ps is && listed_arms_are_pure ps js)
listed_append ps [] js = refl
listed_append ps (i ∷ is) js =
    let p = is_pure_arm (arm_at (true, true) ps i) in
    ap (λ b. p && b) (listed_append ps is js) ∙ sym (and_assoc p (listed_arms_are_pure ps is) (listed_arms_are_pure ps js))

-- the arm at a place
pub arm-get : (bs : List BinaryExpr) (i : ℕ) → is_pure_arm (arm_at (true, true) (arm_purities (arms_of bs)) i) ≡ is_pure_if_any (slice_get bs i)
arm-get [] i = refl
arm-get (b ∷ bs) zero = refl
arm-get (b ∷ bs) (suc i) = arm-get bs i

pub answer-get : (bs : List BinaryExpr) (i : ℕ) → answer_is_pure (arm_purities (arms_of bs)) i ≡ has_pure_answer (slice_get bs i)
answer-get [] i = refl
answer-get (b ∷ bs) zero = refl
answer-get (b ∷ bs) (suc i) = answer-get bs i

-- ---- item by item, for a loop

pub listed-drop : (ps : List ArmPurity) (is : List ℕ) (i d : ℕ) → i < length is → listed_arms_are_pure ps (drop i is) ≡ (is_pure_arm (arm_at (true, true) ps (get_or is i d)) && listed_arms_are_pure ps (drop (i + 1) is))
listed-drop ps is i d h = rw (add-one, drop-cons is i d) refl

pub listed-end : (ps : List ArmPurity) (is : List ℕ) → listed_arms_are_pure ps (drop (length is) is) ≡ true
listed-end ps is = ap (listed_arms_are_pure ps) (drop-length is)

abbrev pub listed_by_ranges : List ArmPurity → List RangeCase → Bool
listed_by_ranges ps rs = listed_arms_are_pure ps (arms_of_ranges (map range_of rs))

ranges_step : (ps : List ArmPurity) (r : RangeCase) (rs : List RangeCase) → listed_by_ranges ps (r ∷ rs) ≡ (is_pure_arm (arm_at (true, true) ps (index_of r)) && listed_by_ranges ps rs)
ranges_step ps r rs = ap (λ i. is_pure_arm (arm_at (true, true) ps i) && listed_by_ranges ps rs) (range_arm r)

pub ranges-drop : (ps : List ArmPurity) (rs : List RangeCase) (i : ℕ) (d : RangeCase) → i < length rs → listed_by_ranges ps (drop i rs) ≡ (is_pure_arm (arm_at (true, true) ps (index_of (get_or rs i d))) && listed_by_ranges ps (drop (i + 1) rs))
ranges-drop ps rs i d h = rw (add-one, drop-cons rs i d) (ranges_step ps (get_or rs i d) (drop (suc i) rs))

pub ranges-end : (ps : List ArmPurity) (rs : List RangeCase) → listed_by_ranges ps (drop (length rs) rs) ≡ true
ranges-end ps rs = ap (listed_by_ranges ps) (drop-length rs)

pub ruleset tables = (listed_append, arm-get, answer-get, listed-drop, listed-end, ranges-drop, ranges-end)
