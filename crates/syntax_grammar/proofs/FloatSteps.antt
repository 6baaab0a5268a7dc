-- Floats.
use Rattle.std.proofs.Common.{◌≡◌, ◌<◌, ◌+◌, ◌==◌, ◌∙◌, ℕ, true, false, List, [], ◌∷◌, ◌++◌, drop, length, get_or, refl, sym, ap, subst, add-one, Some, to_bits, if◌then◌else◌}
use Rattle.std.proofs.Math.Seq.{drop-cons, drop-length}
use Rattle.std.specs.Float.{Float, binary64}
use Rattle.fast_float.specs.Parse.{parse_float}
use Rattle.base_tokens.specs.Names.{within}
use Rattle.theory_grammar.specs.Words.{Blanks, Decimal, IsFloat, Next, PastGreatest, Stands, behind_decimal, float, goes_on, is_whole, next, past_greatest, past_greatest_digits, unmarked}

pub float_at : {ws start rest : List ℕ} (x : List ℕ) (bits : ℕ) → Blanks ws start → start ≡ x ++ rest → goes_on (within 48 57) start ≡ true → is_whole start ≡ false → rest ≡ behind_decimal start → IsFloat (unmarked x) bits → Next ws (Decimal bits) rest
float_at {rest = rest} x bits b e g w r f = next b (subst (λ s. Stands s (Decimal bits) rest) (sym e) (float x bits (subst (λ s. goes_on (within 48 57) s ≡ true) e g) (subst (λ s. is_whole s ≡ false) e w) (sym (r ∙ ap behind_decimal e)) f))

pub greatest_at : {ws start : List ℕ} (t : List ℕ) (end place : ℕ) → Blanks ws start → start ≡ past_greatest_digits ++ drop place t → drop end t ≡ behind_decimal start → end ≡ place → Next ws PastGreatest (drop place t)
greatest_at t end place b e d is = next b (subst (λ s. Stands s PastGreatest (drop place t)) (sym e) (past_greatest (sym (ap (λ i. drop i t) (sym is) ∙ d ∙ ap behind_decimal e))))

pub is_float_at : (digits : List ℕ) (v : Float) (bits : ℕ) → parse_float binary64 digits ≡ Some v → to_bits binary64 v ≡ bits → IsFloat digits bits
is_float_at digits v bits p h = record { value = v; parsed = p; has_bits = h }

pub float_as : {digits others : List ℕ} (bits : ℕ) → digits ≡ others → IsFloat digits bits → IsFloat others bits
float_as bits e f = subst (λ x. IsFloat x bits) e f

pub unmarked-drop : (cs : List ℕ) (i d : ℕ) → i < length cs → unmarked (drop i cs) ≡ (if get_or cs i d == 95 then unmarked (drop (i + 1) cs) else get_or cs i d ∷ unmarked (drop (i + 1) cs))
unmarked-drop cs i d h = rw (add-one, drop-cons cs i d) refl

pub unmarked-end : (cs : List ℕ) → unmarked (drop (length cs) cs) ≡ []
unmarked-end cs = ap unmarked (drop-length cs)

pub ruleset float_steps = (float_at, greatest_at, is_float_at, unmarked-drop, unmarked-end)
