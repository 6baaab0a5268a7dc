-- Tables of which something goes over a constant subject: what does not stand for it.
use Rattle.std.specs.Prelude.{ℕ, Bool, true, false, not, ◌||◌, cond, List, [], ◌∷◌, length, nat_lt, Option, Some, None}
use Rattle.rhai_base.specs.Value.{Value, same}
use Rattle.theory_meaning.specs.Control.{holds}
use Rattle.theory_meaning.specs.Tree.{Arms, SwitchCase, SwitchRange, SwitchTable}
use Rattle.theory_rewriting.specs.Tables.{arm_of, arm_decides, left_arms}
use Rattle.theory_rewriting.specs.Shrinking.{loses_arms, has_some}

-- ---- the list of a value

abbrev pub has_other : Value → List SwitchCase → Bool
has_other v [] = false
has_other v (c ∷ cs) = not (same c.value v) || has_other v cs

abbrev pub only_cases : Arms → Value → List SwitchCase → List SwitchCase
only_cases as' v [] = []
only_cases as' v (c ∷ cs) = cond (same c.value v) (record { value = c.value; arms = left_arms as' c.arms } ∷ only_cases as' v cs) (only_cases as' v cs)

-- ---- the ranges that hold it

abbrev pub range_with : Option Bool → SwitchRange → List SwitchRange → List SwitchRange
range_with (Some false) r rs = rs
range_with (Some true) r rs = r ∷ []
range_with None r rs = r ∷ rs

abbrev pub only_ranges : Arms → Value → List SwitchRange → List SwitchRange
only_ranges as' v [] = []
only_ranges as' v (r ∷ rs) = cond (holds r.range v) (range_with (arm_decides (arm_of as' r.arm)) r (only_ranges as' v rs)) (only_ranges as' v rs)

abbrev pub loses_ranges : Arms → Value → List SwitchRange → Bool
loses_ranges as' v rs = nat_lt (length (only_ranges as' v rs)) (length rs)

-- ---- tables, by the list that stands for the value

abbrev pub has_case : List SwitchCase → Bool
has_case [] = false
has_case (c ∷ cs) = true

abbrev pub narrows_by : Arms → SwitchTable → Value → Option (List ℕ) → Bool
narrows_by as' t v (Some is) = loses_arms as' is || (has_some t.ranges || has_other v t.cases)
narrows_by as' t v None = has_case t.cases || loses_ranges as' v t.ranges

abbrev pub narrowed_by : Arms → SwitchTable → Value → Option (List ℕ) → SwitchTable
narrowed_by as' t v (Some is) = record { cases = only_cases as' v t.cases; ranges = []; default = t.default }
narrowed_by as' t v None = record { cases = []; ranges = only_ranges as' v t.ranges; default = t.default }
