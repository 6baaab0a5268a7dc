-- Tables of which something goes whatever the subject is.
use Rattle.std.specs.Prelude.{◌≡◌, ℕ, Bool, true, false, not, ◌||◌, ◌&&◌, cond, List, [], ◌∷◌, length, nat_lt, None}
use Rattle.theory_meaning.specs.Control.{case_for}
use Rattle.theory_meaning.specs.Tree.{Arms, SwitchCase, SwitchRange, SwitchTable}
use Rattle.theory_rewriting.specs.Answering.{is_that}
use Rattle.theory_rewriting.specs.Tables.{arm_of, arm_decides, left_arms}

abbrev pub is_false_arm : Arms → ℕ → Bool
is_false_arm as' i = is_that false (arm_decides (arm_of as' i))

-- ---- ranges

abbrev pub has_false : Arms → List SwitchRange → Bool
has_false as' [] = false
has_false as' (r ∷ rs) = is_false_arm as' r.arm || has_false as' rs

abbrev pub left_ranges : Arms → List SwitchRange → List SwitchRange
left_ranges as' [] = []
left_ranges as' (r ∷ rs) = cond (is_false_arm as' r.arm) (left_ranges as' rs) (r ∷ left_ranges as' rs)

abbrev pub has_some : List SwitchRange → Bool
has_some [] = false
has_some (r ∷ rs) = true

-- ---- case lists; keep: emptied ones stay

abbrev pub loses_arms : Arms → List ℕ → Bool
loses_arms as' is = nat_lt (length (left_arms as' is)) (length is)

abbrev pub is_none : List ℕ → Bool
is_none [] = true
is_none (i ∷ is) = false

abbrev pub list_shrinks : Arms → Bool → List ℕ → Bool
list_shrinks as' keep is = loses_arms as' is || (not keep && is_none is)

abbrev pub lists_shrink : Arms → Bool → List SwitchCase → Bool
lists_shrink as' keep [] = false
lists_shrink as' keep (c ∷ cs) = list_shrinks as' keep c.arms || lists_shrink as' keep cs

abbrev pub stays : Bool → List ℕ → Bool
stays keep is = keep || not (is_none is)

abbrev pub left_cases : Arms → Bool → List SwitchCase → List SwitchCase
left_cases as' keep [] = []
left_cases as' keep (c ∷ cs) = cond (stays keep (left_arms as' c.arms)) (record { value = c.value; arms = left_arms as' c.arms } ∷ left_cases as' keep cs) (left_cases as' keep cs)

-- no two stand for one value
abbrev pub AreDistinct : List SwitchCase → Type 0
AreDistinct [] = Unit {0}
AreDistinct (c ∷ cs) = (case_for cs c.value ≡ None) × AreDistinct cs

-- ---- tables

abbrev pub shrinks : Arms → SwitchTable → Bool
shrinks as' t = lists_shrink as' (has_some t.ranges) t.cases || has_false as' t.ranges

abbrev pub shrunk : Arms → SwitchTable → SwitchTable
shrunk as' t = record { cases = left_cases as' (has_some (left_ranges as' t.ranges)) t.cases; ranges = left_ranges as' t.ranges; default = t.default }
