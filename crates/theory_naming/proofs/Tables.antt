-- A `switch` asks of its arms those alone that its table lists, in the table's order: arms may be numbered anew, and what is not
-- listed may go.
use Rattle.std.proofs.Common.{◌≡◌, ℕ, Bool, true, false, cond, List, ◌∷◌, Option, Some, None, refl}
use Rattle.std.specs.Prelude.{slice_get}
use Rattle.rhai_base.specs.Value.{Value, same, is_hashable}
use Rattle.theory_meaning.specs.Act.{Act}
use Rattle.theory_meaning.specs.Control.{ArmActs, holds, ranges_with, case_for, or_ranges, try_arm, first_arm, answer_of, default_of, switch_on}
use Rattle.theory_meaning.specs.Tree.{IntRange, SwitchTable, SwitchCase, SwitchRange}
use Rattle.theory_naming.specs.Naming.{OptionOf, both_none, both_some, ListOf, both_empty, both_more}

module _ (as' bs : List ArmActs) where
  -- the arm of one number is that of the other
  abbrev pub ArmAs : ℕ → ℕ → Type 0
  ArmAs i j = slice_get as' i ≡ slice_get bs j

  pub data CaseAs : SwitchCase → SwitchCase → Type 0 where
    case_as : (v : Value) {is js : List ℕ} → ListOf ArmAs is js → CaseAs (record { value = v; arms = is }) (record { value = v; arms = js })

  pub data RangeAs : SwitchRange → SwitchRange → Type 0 where
    range_as : (r : IntRange) {i j : ℕ} → ArmAs i j → RangeAs (record { range = r; arm = i }) (record { range = r; arm = j })

  pub record TableAs (t u : SwitchTable) : Type 0 where
    pub cases : ListOf CaseAs t.cases u.cases
    pub ranges : ListOf RangeAs t.ranges u.ranges
    pub default : OptionOf ArmAs t.default u.default

  first_as : {is js : List ℕ} → ListOf ArmAs is js → {d d' : Act} → d ≡ d' → first_arm as' is d ≡ first_arm bs js d'
  first_as both_empty e = e
  first_as (both_more h k) e = λ i. try_arm (h i) (first_as k e i)

  default_as : {o p : Option ℕ} → OptionOf ArmAs o p → default_of as' o ≡ default_of bs p
  default_as both_none = refl
  default_as (both_some h) = λ i. answer_of (h i)

  or_more : (b : Bool) (i j : ℕ) → ArmAs i j → {is js : List ℕ} → ListOf ArmAs is js → ListOf ArmAs (cond b (i ∷ is) is) (cond b (j ∷ js) js)
  or_more true i j h k = both_more h k
  or_more false i j h k = k

  ranges_as : {rs ss : List SwitchRange} → ListOf RangeAs rs ss → (v : Value) → ListOf ArmAs (ranges_with rs v) (ranges_with ss v)
  ranges_as both_empty v = both_empty
  ranges_as (both_more (range_as r {i = i} {j = j} h) k) v = or_more (holds r v) i j h (ranges_as k v)

  or_case : (b : Bool) {is js : List ℕ} → ListOf ArmAs is js → {o p : Option (List ℕ)} → OptionOf (ListOf ArmAs) o p → OptionOf (ListOf ArmAs) (cond b (Some is) o) (cond b (Some js) p)
  or_case true h k = both_some h
  or_case false h k = k

  case_for_as : {ls ms : List SwitchCase} → ListOf CaseAs ls ms → (v : Value) → OptionOf (ListOf ArmAs) (case_for ls v) (case_for ms v)
  case_for_as both_empty v = both_none
  case_for_as (both_more (case_as u h) k) v = or_case (same u v) h (case_for_as k v)

  where_hashable : (b : Bool) {o p : Option (List ℕ)} → OptionOf (ListOf ArmAs) o p → OptionOf (ListOf ArmAs) (cond b o None) (cond b p None)
  where_hashable true h = h
  where_hashable false h = both_none

  or_ranges_as : (t u : SwitchTable) → TableAs t u → (v : Value) {o p : Option (List ℕ)} → OptionOf (ListOf ArmAs) o p → ListOf ArmAs (or_ranges t v o) (or_ranges u v p)
  or_ranges_as t u h v both_none = ranges_as h.ranges v
  or_ranges_as t u h v (both_some k) = k

  pub switch_as : (t u : SwitchTable) → TableAs t u → (v : Value) → switch_on as' t v ≡ switch_on bs u v
  switch_as t u h v = first_as (or_ranges_as t u h v (where_hashable (is_hashable v) (case_for_as h.cases v))) (default_as h.default)
