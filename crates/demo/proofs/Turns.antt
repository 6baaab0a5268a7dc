-- Words that make no request, and words that name a number of turns.
use Rattle.std.proofs.Common.{rules, ◌≡◌, ℕ, Bool, ◌&&◌, ◌<◌, ◌≤◌, ◌^◌, true, false, nat_lt, cond, List, [], ◌∷◌, Result, Ok, Err, Option, Some, None, length, refl, sym, ap, ◌∙◌, arith}
use Rattle.std.specs.Result.{result_ok}
use Rattle.std.specs.Str.{all_ascii_digits}
use Rattle.std.specs.Str.Parse.{ParsesUnsigned}
use Rattle.std.proofs.lemmas.Bool.{lt-ltb, ltb-true}
use Rattle.std.proofs.lemmas.Str.Parse.{IsNumeralModel, numerals_by_fold, tells_all_ascii_digits, parse_digits}
use Rattle.rhai_base.specs.Value.{Text}
use Rattle.demo.specs.Words.{number_after, request_of, turns_named}

pub request_of-two : (ws : List Text) → 2 ≤ length ws → length ws < 3 → None ≡ request_of ws
request_of-two [] h k = absurd (omega arith)
request_of-two (a ∷ []) h k = absurd (omega arith)
request_of-two (a ∷ b ∷ []) h k = refl
request_of-two (a ∷ b ∷ c ∷ ws) h k = absurd (omega arith)

pub request_of-many : (ws : List Text) → 5 ≤ length ws → None ≡ request_of ws
request_of-many [] h = absurd (omega arith)
request_of-many (a ∷ []) h = absurd (omega arith)
request_of-many (a ∷ b ∷ []) h = absurd (omega arith)
request_of-many (a ∷ b ∷ c ∷ []) h = absurd (omega arith)
request_of-many (a ∷ b ∷ c ∷ d ∷ []) h = absurd (omega arith)
request_of-many (a ∷ b ∷ c ∷ d ∷ e ∷ ws) h = refl

-- digits read from the left are the number that `parse` reads
own : IsNumeralModel (λ ds. all_ascii_digits ds ≡ true) (number_after 0)
own = numerals_by_fold _ tells_all_ascii_digits number_after (search rules)

abbrev named : Text → Option ℕ
named ds = cond (nat_lt (number_after 0 ds) (2 ^ 64)) (Some (number_after 0 ds)) None

is_false : (b : Bool) → (b ≡ true → ⊥) → b ≡ false
is_false true h = absurd (h refl)
is_false false h = refl

module _ (E : Type 0) where
  named_number : (ds : Text) (r : Result ℕ E) → 0 < length ds → all_ascii_digits ds ≡ true → ParsesUnsigned 64 10 ds r → result_ok r ≡ named ds
  named_number ds (Ok x) some digits h =
      let k = parse_digits own {E = E} 64 ds (Ok x) h digits in
      let fits : nat_lt (number_after 0 ds) (2 ^ 64) ≡ true = lt-ltb _ _ k.0.1 in
      ap Some k.1 ∙ sym (ap (λ b. cond b (Some (number_after 0 ds)) None) fits)
  named_number ds (Err x) some digits h =
      let k = parse_digits own {E = E} 64 ds (Err x) h digits in
      let past : nat_lt (number_after 0 ds) (2 ^ 64) ≡ false = is_false _ (λ t. k (some, ltb-true _ _ t)) in
      sym (ap (λ b. cond b (Some (number_after 0 ds)) None) past)

  -- `parse`, of digits alone
  pub turns_parsed : (ds : Text) (r : Result ℕ E) → all_ascii_digits ds ≡ true → ParsesUnsigned 64 10 ds r → result_ok r ≡ turns_named ds
  turns_parsed [] (Ok x) digits h =
      let k = parse_digits own {E = E} 64 [] (Ok x) h digits in
      let some : 0 < 0 = k.0.0 in
      absurd (omega (arith, some))
  turns_parsed [] (Err x) digits h = refl
  turns_parsed (c ∷ cs) r digits h =
      let n = number_after 0 (c ∷ cs) in
      named_number (c ∷ cs) r (omega arith) digits h ∙ ap (λ b. cond (b && nat_lt n (2 ^ 64)) (Some n) None) (sym digits)
