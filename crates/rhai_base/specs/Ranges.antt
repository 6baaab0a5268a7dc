-- Ranges: the integers between two ends, the upper one in or out.
use Rattle.std.specs.Prelude.{◌≡◌, ◌↔◌, ℕ, Bool, true, false, not, ◌&&◌, IsTrue, List, ℤ, ◌<ℤ◌, int_lt, int_le, Contains, AllPairs}
use Rattle.std.specs.Float.{Float}
use Rattle.std.specs.Float.Ieee
use Rattle.std.specs.Int.{int_gap}
use Rattle.std.specs.Range.{range_inclusive_start, range_inclusive_end, range_inclusive_exhausted, range_inclusive_left}
use Rattle.rhai_base.specs.declared.range_case.RangeCase.{RangeCase}
use Rattle.rhai_base.specs.declared.range_case.RangeCase.TheVariants.{ExclusiveInt, InclusiveInt}
use Rattle.rhai_base.specs.declared.range_case.RangeCaseIter.{RangeCaseIter}
use Rattle.rhai_base.specs.Floats.{float_of, as_float, between}
use Rattle.rhai_base.specs.Upward.{upward}
use Rattle.rhai_base.specs.Value.{Value, IntV, FloatV}

-- the integer is in the range; a range that was iterated over to its end holds none
abbrev pub holds : RangeCase → ℤ → Bool
holds (ExclusiveInt r i) n = int_le r.start n && int_lt n r.end
holds (InclusiveInt r i) n = not (range_inclusive_exhausted r) && int_le (range_inclusive_start r) n && int_le n (range_inclusive_end r)

-- the float is between the ends, each as the float that is nearest to it; a range without integers holds none
abbrev pub contains_float : RangeCase → Float → Bool
contains_float (ExclusiveInt r i) x = Ieee.le (as_float r.start) x && Ieee.lt x (as_float r.end)
contains_float (InclusiveInt r i) x = holds (InclusiveInt r i) (range_inclusive_start r) && between (range_inclusive_start r) (range_inclusive_end r) x

abbrev pub holds_value : RangeCase → Value → Bool
holds_value c (IntV n) = holds c n
holds_value c (FloatV x) = contains_float c (float_of x)
holds_value c _ = false

-- the integers in the range, ascending
abbrev pub numbers : RangeCase → List ℤ
numbers (ExclusiveInt r i) = upward r.start (int_gap r.start r.end)
numbers (InclusiveInt r i) = upward (range_inclusive_start r) (range_inclusive_left int_gap r)

-- the range's set, ascending
abbrev pub AreNumbersOf : RangeCase → List ℤ → Type 0
AreNumbersOf c ns = (ns ≡ numbers c) × AllPairs (λ a b. a <ℤ b) ns × ((n : ℤ) → Contains ns n ↔ IsTrue (holds c n))

abbrev pub left : RangeCaseIter → List ℤ
left it = numbers it.range

abbrev pub is_closed : RangeCase → Bool
is_closed (ExclusiveInt r i) = false
is_closed (InclusiveInt r i) = true

abbrev pub index_of : RangeCase → ℕ
index_of (ExclusiveInt r i) = i
index_of (InclusiveInt r i) = i

abbrev pub numbered : RangeCase → ℕ → RangeCase
numbered (ExclusiveInt r i) n = ExclusiveInt r n
numbered (InclusiveInt r i) n = InclusiveInt r n
