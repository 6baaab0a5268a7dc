-- What is left of arms, one by one, and what a `switch` is decided to.
use Rattle.std.proofs.Common.{◌≡◌, ℕ, ℤ, not, if◌then◌else◌, arith, Bool, true, false, List, [], ◌∷◌, Option, Some, None, refl, sym, ap, subst}
use Rattle.std.proofs.lemmas.Float.{lt_irrefl, lt_of_lt_of_le}
use Rattle.std.proofs.lemmas.Int.{ints}
use Rattle.std.specs.Prelude.{T, ◌&&◌, int_lt, int_le}
use Rattle.std.specs.Float.{Float}
use Rattle.std.specs.Float.Ieee
use Rattle.std.specs.Range.{range_inclusive_start, range_inclusive_end, range_inclusive_exhausted}
use Rattle.rhai_base.specs.Floats.{float_of, as_float, between}
use Rattle.rhai_base.specs.Ranges.{holds_value}
use Rattle.rhai_base.specs.declared.range_case.RangeCase.{RangeCase}
use Rattle.rhai_base.specs.declared.range_case.RangeCase.TheVariants as range_kind
use Rattle.rhai_base.specs.Value.{Value, IntV, FloatV}
use Rattle.theory_meaning.specs.Control.{holds}
use Rattle.theory_meaning.specs.Tree.{Arms, IntRange, ExclusiveInt, InclusiveInt}
use Rattle.ast_types.specs.Reading.{range_of}
use Rattle.theory_rewriting.specs.Tables.{arm_of, arm_decides, left_with, left_arms}
use Rattle.opt_switch.specs.declared.choice.Choice.{Choice}
use Rattle.opt_switch.specs.declared.choice.Choice.TheVariants.{Nothing, Answer, Only, Several}
use Rattle.opt_switch.specs.Choices.{first_of, behind, choice_of, only_then, followed, choice_behind}

-- ---- one arm more

pub choice-step : (c : Choice) (as' : Arms) (i : ℕ) (is : List ℕ) → choice_behind c as' (i ∷ is) ≡ choice_behind (behind c i (arm_decides (arm_of as' i))) as' is
choice-step c as' i is = by c (arm_decides (arm_of as' i)) refl where
  open_first : (l : List ℕ) → arm_decides (arm_of as' i) ≡ None → choice_of as' (i ∷ l) ≡ only_then i l
  open_first [] h = ap (λ o. first_of o i) h
  open_first (k ∷ l) h = refl

  by : (c : Choice) (d : Option Bool) → arm_decides (arm_of as' i) ≡ d → followed c as' (left_with d i (left_arms as' is)) ≡ choice_behind (behind c i d) as' is
  by Nothing (Some false) h = refl
  by Nothing (Some true) h = ap (λ o. first_of o i) h
  by Nothing None h = open_first (left_arms as' is) h
  by (Answer j) d h = refl
  by (Only j) (Some false) h = refl
  by (Only j) (Some true) h = refl
  by (Only j) None h = refl
  by Several d h = refl

pub choice-end : (c : Choice) (as' : Arms) → choice_behind c as' [] ≡ c
choice-end Nothing as' = refl
choice-end (Answer j) as' = refl
choice-end (Only j) as' = refl
choice-end Several as' = refl

-- ---- ranges

no_int : (e n : ℤ) → false ≡ int_le e n && int_lt n e
no_int e n = grind (arith, ints)

-- no float is at least an end and below it
no_float : (e x : Float) → false ≡ Ieee.le e x && Ieee.lt x e
no_float e x = by (Ieee.le e x) (Ieee.lt x e) refl refl where
  by : (a b : Bool) → Ieee.le e x ≡ a → Ieee.lt x e ≡ b → false ≡ a && b
  by false b h k = refl
  by true false h k = refl
  by true true h k = absurd (lt_irrefl x (lt_of_lt_of_le x e x (subst T (sym k) tt) (subst T (sym h) tt)))

at_most_itself : (n : ℤ) → int_le n n ≡ true
at_most_itself n = grind (arith, ints)

abbrev is_number : Value → Bool
is_number (IntV n) = true
is_number (FloatV x) = true
is_number _ = false

not_held : (q : IntRange) (v : Value) → is_number v ≡ false → false ≡ holds q v
not_held (ExclusiveInt a b) (IntV n) h = absurd (let z : true ≡ false = h in cc)
not_held (ExclusiveInt a b) (FloatV x) h = absurd (let z : true ≡ false = h in cc)
not_held (ExclusiveInt a b) _ h = refl
not_held (InclusiveInt a b) (IntV n) h = absurd (let z : true ≡ false = h in cc)
not_held (InclusiveInt a b) (FloatV x) h = absurd (let z : true ≡ false = h in cc)
not_held (InclusiveInt a b) _ h = refl

pub held_is : (r : RangeCase) (v : Value) → holds_value r v ≡ holds (range_of r).range v
held_is (range_kind.ExclusiveInt r i) (IntV n) = refl
held_is (range_kind.ExclusiveInt r i) (FloatV x) = refl
held_is (range_kind.ExclusiveInt r i) _ = refl
held_is (range_kind.InclusiveInt r i) (IntV n) = by (range_inclusive_exhausted r) where
  by : (b : Bool) → (not b && int_le (range_inclusive_start r) n && int_le n (range_inclusive_end r)) ≡ holds (if b then ExclusiveInt (range_inclusive_end r) (range_inclusive_end r) else InclusiveInt (range_inclusive_start r) (range_inclusive_end r)) (IntV n)
  by true = no_int (range_inclusive_end r) n
  by false = refl
held_is (range_kind.InclusiveInt r i) (FloatV x) = by (range_inclusive_exhausted r) where
  a : ℤ
  a = range_inclusive_start r

  by : (b : Bool) → ((not b && int_le a a && int_le a (range_inclusive_end r)) && between a (range_inclusive_end r) (float_of x)) ≡ holds (if b then ExclusiveInt (range_inclusive_end r) (range_inclusive_end r) else InclusiveInt (range_inclusive_start r) (range_inclusive_end r)) (FloatV x)
  by true = no_float (as_float (range_inclusive_end r)) (float_of x)
  by false = ap (λ c. (c && int_le a (range_inclusive_end r)) && between a (range_inclusive_end r) (float_of x)) (at_most_itself a)
held_is (range_kind.InclusiveInt r i) _ = not_held (range_of (range_kind.InclusiveInt r i)).range _ refl
