-- The numbers of arms that are left, by how many are gone before each.
use Rattle.std.specs.Prelude.{ℕ, ◌+◌, ◌-◌, Bool, cond, List, [], ◌∷◌, get_or}
use Rattle.rhai_base.specs.Ranges.{numbered, index_of}
use Rattle.rhai_base.specs.declared.range_case.RangeCase.{RangeCase}
use Rattle.ast_alike.specs.declared.marks.Gaps.{Gaps}

-- the gaps before each arm, where so many are before the first; and behind the last
abbrev pub gaps_from : ℕ → List Bool → List ℕ
gaps_from n [] = []
gaps_from n (m ∷ ms) = n ∷ gaps_from (n + cond m 0 1) ms

abbrev pub gaps_after : ℕ → List Bool → ℕ
gaps_after n [] = n
gaps_after n (m ∷ ms) = gaps_after (n + cond m 0 1) ms

abbrev pub number_by : Gaps → ℕ → ℕ
number_by g i = i - get_or g.before.items i g.all

-- a range with a new number for its arm
abbrev pub numbered_place : (ℕ → ℕ) → RangeCase → RangeCase
numbered_place number r = numbered r (number (index_of r))
