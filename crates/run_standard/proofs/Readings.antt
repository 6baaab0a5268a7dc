-- What `parse` reads is a number by a test.
use Rattle.std.proofs.Common.{◌≡◌, ℕ, ◌<◌, Bool, true, false, Some, None, w64, refl, sym, ap, ◌∙◌, rules}
use Rattle.std.specs.Prelude.{ℤ, pos, negsuc, FitsSigned, ◌&&◌, nat_lt, if◌then◌else◌}
use Rattle.std.specs.Str.{all_ascii_digits}
use Rattle.std.specs.Str.Parse.{IsNumeral, digits_value, without_leading_sign, signed_digits_value}
use Rattle.std.proofs.lemmas.Str.Parse.{IsNumeralModel, numerals_by_value, tells_all_ascii_digits}
use Rattle.rhai_base.specs.Value.{Text}
use Rattle.rhai_base.specs.Operators.{fits}
use Rattle.run_standard.specs.Reading.{number_in}

own : IsNumeralModel (λ ds. all_ascii_digits ds ≡ true) (digits_value 10)
own = numerals_by_value _ tells_all_ascii_digits

below : (m n : ℕ) → m < n → nat_lt m n ≡ true
below m n h = search rules

is_below : (m n : ℕ) → nat_lt m n ≡ true → m < n
is_below m n h = search rules

fitting : (z : ℤ) → FitsSigned w64 z → fits z ≡ true
fitting (pos n) h = below n 9223372036854775808 h.sfits
fitting (negsuc n) h = below n 9223372036854775808 h.sfits

is_fitting : (z : ℤ) → fits z ≡ true → FitsSigned w64 z
is_fitting (pos n) h = record { sfits = is_below n 9223372036854775808 h }
is_fitting (negsuc n) h = record { sfits = is_below n 9223372036854775808 h }

chosen : (a b c : Bool) (v : ℤ) → a ≡ true → b ≡ true → c ≡ true → (if (a && b) && c then Some v else None) ≡ Some v
chosen a b c v p q r = rw (p, q, r) refl

left_out : (a b c : Bool) (v : ℤ) → (a ≡ true → b ≡ true → c ≡ true → ⊥) → (if (a && b) && c then Some v else None) ≡ None
left_out true true true v h = absurd (h refl refl refl)
left_out true true false v h = refl
left_out true false c v h = refl
left_out false b c v h = refl

pub number-some : (t : Text) (n : ℤ) → IsNumeral 10 (without_leading_sign t) × FitsSigned w64 (signed_digits_value 10 t) → n ≡ signed_digits_value 10 t → Some n ≡ number_in t
number-some t n h e = ap Some e ∙ sym (chosen _ _ _ (signed_digits_value 10 t) (below 0 _ h.0.0) (own.from _ h.0.1) (fitting _ h.1))

pub number-none : (t : Text) → ¬ (IsNumeral 10 (without_leading_sign t) × FitsSigned w64 (signed_digits_value 10 t)) → None ≡ number_in t
number-none t h = sym (left_out _ _ _ (signed_digits_value 10 t) (λ p q r. h ((is_below 0 _ p, own.to _ q), is_fitting _ r)))
