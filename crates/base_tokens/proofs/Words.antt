-- Words, letter by letter.
use Rattle.std.proofs.Common.{◌≡◌, ℕ, ◌+◌, ◌<◌, ◌&&◌, List, length, get_or, drop, refl, add-one, ap, true}
use Rattle.std.proofs.Math.Seq.{drop-cons, drop-length}
use Rattle.base_tokens.specs.Names.{are_all, is_word}

pub are_all-drop : (cs : List ℕ) (i : ℕ) (d : ℕ) → i < length cs → are_all is_word (drop i cs) ≡ is_word (get_or cs i d) && are_all is_word (drop (i + 1) cs)
are_all-drop cs i d h = rw (add-one, drop-cons cs i d) refl

pub are_all-end : (cs : List ℕ) → are_all is_word (drop (length cs) cs) ≡ true
are_all-end cs = ap (are_all is_word) (drop-length cs)

pub ruleset words = (are_all-drop, are_all-end)
