-- Loops, `switch` and `try` over the acts of their parts.
use Rattle.std.specs.Prelude.{ℕ, zero, suc, ◌^◌, Bool, true, false, cond, ◌&&◌, List, [], ◌∷◌, ◌++◌, Option, Some, None, ℤ, pos, negsuc, ◌+ℤ◌, ◌-ℤ◌, nat_lt, slice_get, int_lt, int_le}
use Rattle.std.specs.Float.Ieee
use Rattle.rhai_base.specs.Value.{Text, Value, IntV, FloatV, ArrayV, RangeV, RangeInclusiveV, items, same, holds_float, is_hashable, text_of}
use Rattle.rhai_base.specs.Floats.{float_of, as_float, between}
use Rattle.theory_meaning.specs.Act.{IsVariable, Throws, Again, Ending, Gives, Leaves, WrongKind, CounterTooLarge, Host, Act, Stop, Fail, Then, Turn, Loop, Scoped, Acts, Only, Named}
use Rattle.theory_meaning.specs.Tree.{IntRange, ExclusiveInt, InclusiveInt, SwitchTable, SwitchCase, SwitchRange}
use Rattle.theory_meaning.specs.Shape.{is_unit}
use Rattle.theory_meaning.specs.ActForms.{unit, choose, if_true, ◌>>=◌, on_throw, end_round, again_then}

-- how texts write a value: as the host says where it holds a float
abbrev pub text_in : Host → Value → Text
text_in h v = cond (holds_float v) (h.text v) (text_of v)

unfoldable pub texts_joined : (Value → Text) → List Value → Text
unfolding text_of
texts_joined f [] = []
texts_joined f (v ∷ vs) = f v ++ texts_joined f vs

-- ---- `switch`

pub record ArmActs : Type 0 where
  pub guard : Act
  pub answer : Act

abbrev pub holds : IntRange → Value → Bool
holds (ExclusiveInt a b) (IntV n) = int_le a n && int_lt n b
holds (InclusiveInt a b) (IntV n) = int_le a n && int_le n b
-- a float by the floats that are nearest to the ends; a range without integers holds none
holds (ExclusiveInt a b) (FloatV x) = Ieee.le (as_float a) (float_of x) && Ieee.lt (float_of x) (as_float b)
holds (InclusiveInt a b) (FloatV x) = int_le a b && between a b (float_of x)
holds r v = false

abbrev pub ranges_with : List SwitchRange → Value → List ℕ
ranges_with [] v = []
ranges_with (r ∷ rs) v = cond (holds r.range v) (r.arm ∷ ranges_with rs v) (ranges_with rs v)

abbrev pub case_for : List SwitchCase → Value → Option (List ℕ)
case_for [] v = None
case_for (l ∷ ls) v = cond (same l.value v) (Some l.arms) (case_for ls v)

abbrev pub or_ranges : SwitchTable → Value → Option (List ℕ) → List ℕ
or_ranges t v (Some is) = is
or_ranges t v None = ranges_with t.ranges v

-- the arms to be tried: the case list that stands for the subject, else the ranges that hold it
abbrev pub chosen : SwitchTable → Value → List ℕ
chosen t v = or_ranges t v (cond (is_hashable v) (case_for t.cases v) None)

abbrev pub try_arm : Option ArmActs → Act → Act
try_arm None next = next
try_arm (Some a) next = a.guard >>= λ v. if_true v a.answer next

-- the first whose condition is true
abbrev pub first_arm : List ArmActs → List ℕ → Act → Act
first_arm arms [] default = default
first_arm arms (i ∷ is) default = try_arm (slice_get arms i) (first_arm arms is default)

abbrev pub answer_of : Option ArmActs → Act
answer_of None = unit
answer_of (Some a) = a.answer

abbrev pub default_of : List ArmActs → Option ℕ → Act
default_of arms None = unit
default_of arms (Some i) = answer_of (slice_get arms i)

abbrev pub switch_on : List ArmActs → SwitchTable → Value → Act
switch_on arms t v = first_arm arms (chosen t v) (default_of arms t.default)

-- ---- loops

-- a turn, and the body
abbrev pub round : Acts → Act
round body = Turn (Then (Scoped body) (λ e. end_round e))

abbrev pub while_guarded : Act → Acts → Act
while_guarded guard body = Loop (guard >>= λ v. if_true v (round body) unit)

-- negated: again where the guard is false
abbrev pub do_loop : Bool → Acts → Act → Act
do_loop false body guard = Loop (Then (round body) (λ e. again_then (guard >>= λ v. if_true v (Stop (Leaves Again)) unit) e))
do_loop true body guard = Loop (Then (round body) (λ e. again_then (guard >>= λ v. if_true v unit (Stop (Leaves Again))) e))

abbrev pub counted : Option Text → ℕ → Acts → Acts
counted None k p = p
counted (Some i) k p = cond (nat_lt k (2 ^ 63)) (Named i IsVariable (IntV (pos k)) p) (Only (Fail CounterTooLarge))

-- the rounds of a `for` from the k-th on
abbrev pub for_each : Text → Option Text → Acts → ℕ → List Value → Act
for_each x counter body k [] = unit
for_each x counter body k (v ∷ vs) = Then (round (counted counter k (Named x IsVariable v body))) (λ e. again_then (for_each x counter body (suc k) vs) e)

abbrev pub for_count : Text → Option Text → Acts → ℕ → ℤ → ℕ → Act
for_count x counter body k a zero = unit
for_count x counter body k a (suc n) = Then (round (counted counter k (Named x IsVariable (IntV a) body))) (λ e. again_then (for_count x counter body (suc k) (a +ℤ pos 1) n) e)

abbrev pub size : ℤ → ℕ
size (pos n) = n
size (negsuc n) = 0

abbrev pub for_all : Text → Option Text → Acts → Value → Act
for_all x counter body (ArrayV vs) = for_each x counter body 0 (items vs)
for_all x counter body (RangeV a b) = for_count x counter body 0 a (size (b -ℤ a))
for_all x counter body (RangeInclusiveV a b) = for_count x counter body 0 a (size (b +ℤ pos 1 -ℤ a))
for_all x counter body _ = Fail WrongKind

-- ---- `try`

abbrev pub named : Option Text → Value → Acts → Acts
named None v p = p
named (Some x) v p = Named x IsVariable v p

-- a branch that throws unit throws the caught value
abbrev pub end_branch : Value → Ending → Act
end_branch caught (Gives v) = unit
end_branch caught (Leaves (Throws v)) = choose (is_unit v) (Stop (Leaves (Throws caught))) (Stop (Leaves (Throws v)))
end_branch caught (Leaves x) = Stop (Leaves x)

abbrev pub try_of : Acts → Option Text → Acts → Act
try_of body x handler =
    Then (Scoped body) (λ e. on_throw (λ v. Then (Scoped (named x v handler)) (λ e'. end_branch v e')) e)
