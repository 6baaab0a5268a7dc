-- Integers, a digit at a time.
use Rattle.std.proofs.Common.{◌≡◌, ◌<◌, ◌≤◌, ◌+◌, ◌*◌, ◌==◌, ◌∙◌, ℕ, ℤ, pos, Bool, true, false, List, [], ◌∷◌, refl, sym, ap, subst, arith, nat_lt, drop, if◌then◌else◌}
use Rattle.std.proofs.lemmas.Bool.Decides.{nat_tests}
use Rattle.std.specs.Char.{digit_value}
use Rattle.base_tokens.specs.Names.{within}
use Rattle.theory_grammar.specs.Words.{Blanks, Next, Number, Stands, as_signed, base_named, based, behind_digits, decimal, has_digit, is_whole, next, value_of}

pub decimal_at : {ws rest : List ℕ} (tail : List ℕ) (c n : ℕ) (v : ℤ) → ws ≡ (c ∷ tail) → within 48 57 c ≡ true → is_whole ws ≡ true → n ≡ value_of 10 0 ws → rest ≡ behind_digits 10 ws → v ≡ pos n → Stands ws (Number v) rest
decimal_at {ws = ws} {rest = rest} tail c n v e h w f g k = let stands : Stands (c ∷ tail) (Number (pos (value_of 10 0 (c ∷ tail)))) (behind_digits 10 (c ∷ tail)) = decimal h (subst (λ x. is_whole x ≡ true) e w) in
    let there : Stands ws (Number (pos (value_of 10 0 ws))) (behind_digits 10 ws) = subst (λ x. Stands x (Number (pos (value_of 10 0 x))) (behind_digits 10 x)) (sym e) stands in
    subst (λ x. Stands ws (Number v) x) (sym g) (subst (λ x. Stands ws (Number x) (behind_digits 10 ws)) (sym (k ∙ ap pos f)) there)

pub based_at : {ws mid rest : List ℕ} (c n : ℕ) (v : ℤ) → ws ≡ (c ∷ mid) → 0 < base_named c → has_digit (base_named c) mid ≡ true → n < 18446744073709551616 → n ≡ value_of (base_named c) 0 mid → rest ≡ behind_digits (base_named c) mid → v ≡ as_signed n → Stands (48 ∷ ws) (Number v) rest
based_at {ws = ws} {mid = mid} {rest = rest} c n v e h d b f g k = let stands : Stands (48 ∷ c ∷ mid) (Number (as_signed (value_of (base_named c) 0 mid))) (behind_digits (base_named c) mid) = based h d (subst (λ x. x < 18446744073709551616) f b) in
    subst (λ x. Stands (48 ∷ x) (Number v) rest) (sym e) (subst (λ x. Stands (48 ∷ c ∷ mid) (Number v) x) (sym g) (subst (λ x. Stands (48 ∷ c ∷ mid) (Number x) (behind_digits (base_named c) mid)) (sym (k ∙ ap as_signed f)) stands))

pub zero_before : {ws start mid rest : List ℕ} (c : ℕ) (n v : ℤ) → n ≡ v → Blanks ws start → start ≡ (c ∷ mid) → c ≡ 48 → Stands (48 ∷ mid) (Number n) rest → Next ws (Number v) rest
zero_before {mid = mid} {rest = rest} c n v k b e h s = next b (subst (λ x. Stands x (Number v) rest) (sym (e ∙ ap (λ x. x ∷ mid) h)) (subst (λ x. Stands (48 ∷ mid) (Number x) rest) k s))

pub no_digits : {ws : List ℕ} (base n : ℕ) → ws ≡ [] → value_of base n ws ≡ n
no_digits base n e = ap (value_of base n) e

pub none_behind : {ws : List ℕ} (base : ℕ) → ws ≡ [] → behind_digits base ws ≡ ws
none_behind base e = ap (behind_digits base) e ∙ sym e

pub ruleset number_steps = (based_at, no_digits, none_behind)

-- ---- decimal numbers

pick : (b : Bool) (n x y : ℕ) → n ≤ x → n ≤ y → n ≤ (if b then x else y)
pick true n x y h k = h
pick false n x y h k = k

value_of_grows : (n : ℕ) (ws : List ℕ) → n ≤ value_of 10 n ws
value_of_grows n [] = omega arith
value_of_grows n (c ∷ cs) = let further : n * 10 + digit_value c ≤ value_of 10 (n * 10 + digit_value c) cs = value_of_grows (n * 10 + digit_value c) cs in
    pick (c == 95) n (value_of 10 n cs) (if nat_lt (digit_value c) 10 then value_of 10 (n * 10 + digit_value c) cs else n) (value_of_grows n cs) (pick (nat_lt (digit_value c) 10) n (value_of 10 (n * 10 + digit_value c) cs) n (omega (arith, further)) (omega arith))

no_less : (v : ℕ) → 9223372036854775808 ≤ v → false ≡ nat_lt v 9223372036854775808
no_less v h = grind (arith, nat_tests)

-- digits that come to more than the greatest integer
pub past_small : (ws there : List ℕ) (n : ℕ) → 9223372036854775808 ≤ n → value_of 10 n there ≡ value_of 10 0 ws → false ≡ nat_lt (value_of 10 0 ws) 9223372036854775808
past_small ws there n h e = let grows : n ≤ value_of 10 n there = value_of_grows n there in no_less (value_of 10 0 ws) (omega (arith, h, e, grows))

pub drop_twice : (ws : List ℕ) → drop 1 (drop 1 ws) ≡ drop 2 ws
drop_twice [] = refl
drop_twice (c ∷ ws) = refl

pub ruleset decimal_steps = (no_digits, none_behind, past_small, drop_twice)
