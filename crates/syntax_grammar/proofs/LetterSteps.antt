-- Letters by their place.
use Rattle.std.proofs.Common.{◌≡◌, ◌<◌, ◌≤◌, ◌+◌, ◌==◌, ◌||◌, ℕ, true, false, ◌&&◌, List, [], ◌∷◌, drop, get_or, length, add-one, refl, zero, suc, arith, ap, sym, ◌∙◌}
use Rattle.std.proofs.Math.Seq.{drop-cons, drop-length}
use Rattle.base_tokens.specs.Names.{are_all, is_word}
use Rattle.theory_grammar.specs.Words.{has_letter}

pub drop-next : (ws : List ℕ) (i : ℕ) (d : ℕ) → i < length ws → drop i ws ≡ (get_or ws i d ∷ drop (i + 1) ws)
drop-next ws i d h = rw (add-one, drop-cons ws i d) refl

pub drop-past : (ws : List ℕ) (i : ℕ) → length ws ≤ i → drop i ws ≡ []
drop-past [] zero h = refl
drop-past [] (suc i) h = refl
drop-past (c ∷ ws) zero h = absurd (omega (arith, h))
drop-past (c ∷ ws) (suc i) h = drop-past ws i (omega (arith, h))

pub has_letter-drop : (cs : List ℕ) (i : ℕ) (d c : ℕ) → i < length cs → has_letter (drop i cs) c ≡ (get_or cs i d == c || has_letter (drop (i + 1) cs) c)
has_letter-drop cs i d c h = rw (add-one, drop-cons cs i d) refl

pub has_letter-end : (cs : List ℕ) (c : ℕ) → has_letter (drop (length cs) cs) c ≡ false
has_letter-end cs c = ap (λ x. has_letter x c) (drop-length cs)

pub ruleset letter_steps = (drop-next, drop-past, has_letter-drop, has_letter-end)

-- one letter
pub one_dropped : {ws rest : List ℕ} (c : ℕ) → ws ≡ (c ∷ rest) → rest ≡ drop 1 ws
one_dropped c e = sym (ap (drop 1) e)

pub none_dropped : {ws : List ℕ} → ws ≡ [] → ws ≡ drop 1 ws
none_dropped e = e ∙ sym (ap (drop 1) e)

pub ruleset one_steps = (one_dropped, none_dropped)

-- letters of names
pub are_all-drop : (cs : List ℕ) (i : ℕ) (d : ℕ) → i < length cs → are_all is_word (drop i cs) ≡ is_word (get_or cs i d) && are_all is_word (drop (i + 1) cs)
are_all-drop cs i d h = rw (add-one, drop-cons cs i d) refl

pub are_all-end : (cs : List ℕ) → are_all is_word (drop (length cs) cs) ≡ true
are_all-end cs = ap (are_all is_word) (drop-length cs)

pub ruleset word_letters = (are_all-drop, are_all-end)
