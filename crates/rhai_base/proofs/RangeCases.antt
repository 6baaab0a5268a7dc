-- The integers of a `switch`'s ranges.
use Rattle.std.proofs.Common.{◌≡◌, ◌↔◌, ℕ, ◌+◌, ◌-◌, ◌<◌, ◌^◌, Bool, true, false, not, ◌&&◌, IsTrue, MatchOption, List, [], ◌∷◌, length, ℤ, pos, negsuc, ◌+ℤ◌, ◌-ℤ◌, ◌<ℤ◌, ◌≤ℤ◌, int_lt, int_le, Contains, Option, Some, None, w64, refl, sym, ap, ◌∙◌, subst, arith}
use Rattle.std.specs.Int.{int_gap}
use Rattle.std.specs.Int.RustNames.{FitsSigned}
use Rattle.std.specs.Iterator.{MakesProgress, YieldsFirst, item_count}
use Rattle.std.specs.Option.{SomeIff}
use Rattle.std.specs.Range.{range_inclusive_start, range_inclusive_end, range_inclusive_exhausted, range_inclusive_len, range_steps, range_inclusive_steps}
use Rattle.std.specs.declared.ops.Range.{Range}
use Rattle.std.specs.declared.ops.RangeInclusive.{RangeInclusive}
use Rattle.std.proofs.lemmas.Int.{ints}
use Rattle.rhai_base.specs.declared.range_case.RangeCase.{RangeCase}
use Rattle.rhai_base.specs.declared.range_case.RangeCase.TheVariants.{ExclusiveInt, InclusiveInt}
use Rattle.rhai_base.specs.declared.dynamic.Dynamic.{Dynamic}
use Rattle.rhai_base.specs.declared.range_case.RangeCaseIter.{RangeCaseIter}
use Rattle.rhai_base.specs.Ranges.{left, holds_value, numbers, AreNumbersOf}
use Rattle.rhai_base.specs.Reading.{value_of, DynamicCase, int_case, float_case, dynamic_cases}
use Rattle.rhai_base.specs.Upward.{upward}
use Rattle.rhai_base.proofs.Upward.{some_upward, gap_above, checked_is, length_is, len_closed, rising, within, contained, taken_open, one_taken}
use Rattle.rhai_base.specs.Value.{Value}
use Rattle.rhai_base.proofs.OtherKinds.{NoInt, NoFloat}

-- a value that is no integer and no float is in no range
not_integer_by : (c : RangeCase) {y : Dynamic} {w : Value} → DynamicCase y w → NoInt y → NoFloat y → false ≡ holds_value c w
not_integer_by c (int_case n) h f = absurd (h n refl)
not_integer_by c (float_case x) h f = absurd (f x refl)
not_integer_by c _ h f = refl

pub not_integer : (c : RangeCase) (y : Dynamic) → NoInt y → NoFloat y → false ≡ holds_value c (value_of y)
not_integer c y h f = not_integer_by c (dynamic_cases y) h f

-- ---- lengths

abbrev pub IsLength : Option ℤ → RangeCase → Type 0
IsLength out c = SomeIff out (length (numbers c) < 2 ^ 63) (pos (length (numbers c)))

-- the number of integers below the upper end
pub open_len : (c : RangeCase) (r : Range ℤ) (i : ℕ) (out : Option ℤ) → c ≡ ExclusiveInt r i → (numbers c ≡ [] → ⊥) → SomeIff out (FitsSigned w64 (r.end -ℤ r.start)) (r.end -ℤ r.start) → IsLength out c
open_len c r i out e h s =
    let above : r.end -ℤ r.start ≡ pos (int_gap r.start r.end) = gap_above r.start r.end (some_upward _ _ (λ q. h (ap numbers e ∙ q))) in
    subst (IsLength out) (sym e) (length_is r.start _ out (checked_is _ _ out above s))

abbrev closed_size : RangeInclusive ℤ → ℕ
closed_size r = range_inclusive_len int_gap (range_inclusive_start r) (range_inclusive_end r) (range_inclusive_exhausted r)

abbrev Steps : RangeInclusive ℤ → ℤ
Steps r = range_inclusive_end r -ℤ range_inclusive_start r

closed_steps : (c : RangeCase) (r : RangeInclusive ℤ) (i : ℕ) → c ≡ InclusiveInt r i → (numbers c ≡ [] → ⊥)
    → (Steps r ≡ pos (int_gap (range_inclusive_start r) (range_inclusive_end r))) × (closed_size r ≡ int_gap (range_inclusive_start r) (range_inclusive_end r) + 1)
closed_steps c r i e h = len_closed _ _ _ (some_upward _ _ (λ q. h (ap numbers e ∙ q)))

-- one more than the steps to the upper end
pub closed_len : (c : RangeCase) (r : RangeInclusive ℤ) (i : ℕ) (steps : ℤ) (out : Option ℤ) → c ≡ InclusiveInt r i → (numbers c ≡ [] → ⊥)
    → SomeIff (Some steps) (FitsSigned w64 (Steps r)) (Steps r) → SomeIff out (FitsSigned w64 (steps +ℤ pos 1)) (steps +ℤ pos 1) → IsLength out c
closed_len c r i steps out e h s t =
    let g : ℕ = int_gap (range_inclusive_start r) (range_inclusive_end r) in
    let known = closed_steps c r i e h in
    let more : steps +ℤ pos 1 ≡ pos (closed_size r) = ap (λ z. z +ℤ pos 1) (s.1 ∙ known.0) ∙ ap pos (sym known.1) in
    subst (IsLength out) (sym e) (length_is _ _ out (checked_is _ _ out more t))

pub closed_too_long : (c : RangeCase) (r : RangeInclusive ℤ) (i : ℕ) → c ≡ InclusiveInt r i → (numbers c ≡ [] → ⊥)
    → SomeIff None (FitsSigned w64 (Steps r)) (Steps r) → IsLength None c
closed_too_long c r i e h s =
    let known = closed_steps c r i e h in
    let size : closed_size r ≡ int_gap (range_inclusive_start r) (range_inclusive_end r) + 1 = known.1 in
    let long : SomeIff None (int_gap (range_inclusive_start r) (range_inclusive_end r) < 2 ^ 63) (pos (int_gap (range_inclusive_start r) (range_inclusive_end r))) = checked_is _ _ None known.0 s in
    subst (IsLength None) (sym e) (length_is _ _ None (λ small. long (omega arith)))

-- ---- the set

ends_open : (a b x : ℤ) → a ≤ℤ x → x <ℤ (a +ℤ pos (int_gap a b)) → x <ℤ b
ends_open (pos a) (pos b) x h g = omega (arith, ints)
ends_open (pos a) (negsuc b) x h g = omega (arith, ints)
ends_open (negsuc a) (pos b) x h g = omega (arith, ints)
ends_open (negsuc a) (negsuc b) x h g = omega (arith, ints)

opens_up : (a b x : ℤ) → a ≤ℤ x → x <ℤ b → x <ℤ (a +ℤ pos (int_gap a b))
opens_up (pos a) (pos b) x h g = omega (arith, ints)
opens_up (pos a) (negsuc b) x h g = omega (arith, ints)
opens_up (negsuc a) (pos b) x h g = omega (arith, ints)
opens_up (negsuc a) (negsuc b) x h g = omega (arith, ints)

between_open : (a b x : ℤ) → a ≤ℤ x → x <ℤ b → IsTrue (int_le a x && int_lt x b)
between_open a b x h g = grind (arith, ints)

open_between : (a b x : ℤ) → IsTrue (int_le a x && int_lt x b) → (a ≤ℤ x) × (x <ℤ b)
open_between a b x h = (grind (arith, ints), grind (arith, ints))

open_set : (a b x : ℤ) → Contains (upward a (int_gap a b)) x ↔ IsTrue (int_le a x && int_lt x b)
open_set a b x = (
  λ h. let w = within a (int_gap a b) x h in between_open a b x w.0 (ends_open a b x w.0 w.1),
  λ h. let w = open_between a b x h in contained a (int_gap a b) x w.0 (opens_up a b x w.0 w.1),
)

ends_closed : (a b x : ℤ) → a ≤ℤ x → x <ℤ (a +ℤ pos (int_gap a b + 1 - int_gap b a)) → x ≤ℤ b
ends_closed (pos a) (pos b) x h g = omega (arith, ints)
ends_closed (pos a) (negsuc b) x h g = omega (arith, ints)
ends_closed (negsuc a) (pos b) x h g = omega (arith, ints)
ends_closed (negsuc a) (negsuc b) x h g = omega (arith, ints)

closes_up : (a b x : ℤ) → a ≤ℤ x → x ≤ℤ b → x <ℤ (a +ℤ pos (int_gap a b + 1 - int_gap b a))
closes_up (pos a) (pos b) x h g = omega (arith, ints)
closes_up (pos a) (negsuc b) x h g = omega (arith, ints)
closes_up (negsuc a) (pos b) x h g = omega (arith, ints)
closes_up (negsuc a) (negsuc b) x h g = omega (arith, ints)

between_closed : (a b x : ℤ) → a ≤ℤ x → x ≤ℤ b → IsTrue (not false && int_le a x && int_le x b)
between_closed a b x h g = grind (arith, ints)

closed_between : (a b x : ℤ) → IsTrue (not false && int_le a x && int_le x b) → (a ≤ℤ x) × (x ≤ℤ b)
closed_between a b x h = (grind (arith, ints), grind (arith, ints))

empty_is_below : (a x : ℤ) → a ≤ℤ x → x <ℤ (a +ℤ pos 0) → ⊥
empty_is_below a x h g = omega (arith, ints)

closed_set : (a b x : ℤ) (spent : Bool) → Contains (upward a (range_inclusive_len int_gap a b spent)) x ↔ IsTrue (not spent && int_le a x && int_le x b)
closed_set a b x true = (λ h. let w = within a 0 x h in absurd (empty_is_below a x w.0 w.1), λ h. let p : false ≡ true = h in absurd (cc))
closed_set a b x false = (
  λ h. let w = within a (int_gap a b + 1 - int_gap b a) x h in between_closed a b x w.0 (ends_closed a b x w.0 w.1),
  λ h. let w = closed_between a b x h in contained a (int_gap a b + 1 - int_gap b a) x w.0 (closes_up a b x w.0 w.1),
)

pub numbers_are : (c : RangeCase) → AreNumbersOf c (numbers c)
numbers_are (ExclusiveInt r i) = (refl, rising _ _, λ n. open_set r.start r.end n)
numbers_are (InclusiveInt r i) = (refl, rising _ _, λ n. closed_set (range_inclusive_start r) (range_inclusive_end r) n (range_inclusive_exhausted r))

-- ---- the iterator

abbrev Next : ℤ → ℤ → Type 0
Next a b = b ≡ a +ℤ pos 1

-- what a call shows of the integers before and after it
abbrev Shows : List ℤ → List ℤ → Option ℤ → Type 0
Shows ns ms out = MatchOption out ((ns ≡ []) × (ms ≡ [])) (λ x. ns ≡ x ∷ ms)

pub next_open : (s : RangeCaseIter) (r t : Range ℤ) (i : ℕ) (out : Option ℤ) → s.range ≡ ExclusiveInt r i → range_steps int_gap Next r out t → Shows (left s) (numbers (ExclusiveInt t i)) out
next_open s r t i out e h =
    let ns : List ℤ = upward r.start (int_gap r.start r.end) in
    subst (λ c. Shows (numbers c) (numbers (ExclusiveInt t i)) out) (sym e)
    (subst (λ b. Shows ns (upward t.start (int_gap t.start b)) out) (sym h.0) (taken_open r.start r.end t.start out h.1))

abbrev closed_numbers : RangeInclusive ℤ → List ℤ
closed_numbers r = upward (range_inclusive_start r) (closed_size r)

closed_taken : (r t : RangeInclusive ℤ) (out : Option ℤ) → range_inclusive_steps int_gap Next r out t → Shows (closed_numbers r) (closed_numbers t) out
closed_taken r t None (f, (z, same)) = let none = ap (upward (range_inclusive_start r)) z in (none, ap closed_numbers same ∙ none)
closed_taken r t (Some x) (f, (e, m, g)) = one_taken (range_inclusive_start r) (range_inclusive_end t) (range_inclusive_start t) x (closed_size r) (range_inclusive_exhausted t) e m g

pub next_closed : (s : RangeCaseIter) (r t : RangeInclusive ℤ) (i : ℕ) (out : Option ℤ) → s.range ≡ InclusiveInt r i → range_inclusive_steps int_gap Next r out t → Shows (left s) (numbers (InclusiveInt t i)) out
next_closed s r t i out e h = subst (λ c. Shows (numbers c) (numbers (InclusiveInt t i)) out) (sym e) (closed_taken r t out h)

-- a call that gives the first of what is left makes progress
pub progress : {S : Type 0} (rest : S → List ℤ) (s t : S) (out : Option ℤ) → YieldsFirst rest s out t → MakesProgress (λ (x : S). Unit {0}) (item_count rest) s out t
progress rest s t None h = record { on = λ _. tt; keeps = tt; rests = λ _. tt }
progress rest s t (Some x) h =
    let shorter : length (rest s) ≡ length (rest t) + 1 = ap length h ∙ omega arith in
    record { on = λ _. (tt, tt, omega arith); keeps = tt; rests = λ _. tt }
