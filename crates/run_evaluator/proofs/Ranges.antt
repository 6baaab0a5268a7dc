-- Which values a declared range holds.
use Rattle.std.proofs.Common.{◌≡◌, ℤ, not, if◌then◌else◌, arith, Bool, true, false, refl, sym, ap, subst}
use Rattle.std.proofs.lemmas.Float.{lt_irrefl, lt_of_lt_of_le}
use Rattle.std.proofs.lemmas.Int.{ints}
use Rattle.std.specs.Prelude.{T, ◌&&◌, int_lt, int_le}
use Rattle.std.specs.Float.{Float}
use Rattle.std.specs.Float.Ieee
use Rattle.std.specs.Range.{range_inclusive_start, range_inclusive_end, range_inclusive_exhausted}
use Rattle.rhai_base.specs.Floats.{float_of, as_float, between}
use Rattle.rhai_base.specs.Ranges.{holds_value}
use Rattle.rhai_base.specs.declared.range_case.RangeCase.{RangeCase}
use Rattle.rhai_base.specs.declared.range_case.RangeCase.TheVariants as range_kind
use Rattle.rhai_base.specs.Value.{Value, IntV, FloatV}
use Rattle.theory_meaning.specs.Control.{holds}
use Rattle.theory_meaning.specs.Tree.{IntRange, ExclusiveInt, InclusiveInt}
use Rattle.ast_types.specs.Reading.{range_of}

no_int : (e n : ℤ) → false ≡ int_le e n && int_lt n e
no_int e n = grind (arith, ints)

-- no float is at least an end and below it
no_float : (e x : Float) → false ≡ Ieee.le e x && Ieee.lt x e
no_float e x = by (Ieee.le e x) (Ieee.lt x e) refl refl where
  by : (a b : Bool) → Ieee.le e x ≡ a → Ieee.lt x e ≡ b → false ≡ a && b
  by false b h k = refl
  by true false h k = refl
  by true true h k = absurd (lt_irrefl x (lt_of_lt_of_le x e x (subst T (sym k) tt) (subst T (sym h) tt)))

at_most_itself : (n : ℤ) → int_le n n ≡ true
at_most_itself n = grind (arith, ints)

abbrev is_number : Value → Bool
is_number (IntV n) = true
is_number (FloatV x) = true
is_number _ = false

not_held : (q : IntRange) (v : Value) → is_number v ≡ false → false ≡ holds q v
not_held (ExclusiveInt a b) (IntV n) h = absurd (let z : true ≡ false = h in cc)
not_held (ExclusiveInt a b) (FloatV x) h = absurd (let z : true ≡ false = h in cc)
not_held (ExclusiveInt a b) _ h = refl
not_held (InclusiveInt a b) (IntV n) h = absurd (let z : true ≡ false = h in cc)
not_held (InclusiveInt a b) (FloatV x) h = absurd (let z : true ≡ false = h in cc)
not_held (InclusiveInt a b) _ h = refl

pub held_is : (r : RangeCase) (v : Value) → holds_value r v ≡ holds (range_of r).range v
held_is (range_kind.ExclusiveInt r i) (IntV n) = refl
held_is (range_kind.ExclusiveInt r i) (FloatV x) = refl
held_is (range_kind.ExclusiveInt r i) _ = refl
held_is (range_kind.InclusiveInt r i) (IntV n) = by (range_inclusive_exhausted r) where
  by : (b : Bool) → (not b && int_le (range_inclusive_start r) n && int_le n (range_inclusive_end r)) ≡ holds (if b then ExclusiveInt (range_inclusive_end r) (range_inclusive_end r) else InclusiveInt (range_inclusive_start r) (range_inclusive_end r)) (IntV n)
  by true = no_int (range_inclusive_end r) n
  by false = refl
held_is (range_kind.InclusiveInt r i) (FloatV x) = by (range_inclusive_exhausted r) where
  a : ℤ
  a = range_inclusive_start r

  by : (b : Bool) → ((not b && int_le a a && int_le a (range_inclusive_end r)) && between a (range_inclusive_end r) (float_of x)) ≡ holds (if b then ExclusiveInt (range_inclusive_end r) (range_inclusive_end r) else InclusiveInt (range_inclusive_start r) (range_inclusive_end r)) (FloatV x)
  by true = no_float (as_float (range_inclusive_end r)) (float_of x)
  by false = ap (λ c. (c && int_le a (range_inclusive_end r)) && between a (range_inclusive_end r) (float_of x)) (at_most_itself a)
held_is (range_kind.InclusiveInt r i) _ = not_held (range_of (range_kind.InclusiveInt r i)).range _ refl
