-- Words at a place.
use Rattle.std.proofs.Common.{◌≡◌, false, List, ℕ, ◌++◌, sym, subst}
use Rattle.base_tokens.specs.Names.{is_word}
use Rattle.theory_grammar.specs.Words.{Blanks, Letters, Next, Sign, Stands, goes_on, has_letter, letters, longer, next, sign}

pub letters_at : {ws start rest : List ℕ} (x : List ℕ) → Blanks ws start → start ≡ x ++ rest → goes_on is_word rest ≡ false → Next ws (Letters x) rest
letters_at {ws = ws} {rest = rest} x b e h = next b (subst (λ s. Stands s (Letters x) rest) (sym e) (letters x h))

pub sign_at : {ws start rest : List ℕ} (s l : List ℕ) → l ≡ longer s → Blanks ws start → start ≡ s ++ rest → goes_on (has_letter l) rest ≡ false → Next ws (Sign s) rest
sign_at {ws = ws} {rest = rest} s l f b e h = next b (subst (λ x. Stands x (Sign s) rest) (sym e) (sign s (subst (λ x. goes_on (has_letter x) rest ≡ false) f h)))

pub ruleset word_steps = (letters_at, sign_at)
