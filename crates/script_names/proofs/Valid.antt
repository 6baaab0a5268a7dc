-- New names are names that functions may have.
use Rattle.std.proofs.Common.{◌≡◌, ℕ, zero, suc, true, false, ◌&&◌, List, [], ◌∷◌, ◌++◌, Option, Some, None, refl, sym, ap, ◌∙◌}
use Rattle.std.proofs.lemmas.Bool.{and_parts, and_from}
use Rattle.std.specs.Prelude.{replicate}
use Rattle.rhai_base.specs.Value.{Text}
use Rattle.base_tokens.specs.Names.{after, anonymous, are_all, are_some_words, is_valid_name, is_word}
use Rattle.theory_naming.specs.Alike.{unread}
use Rattle.theory_naming.specs.Renaming.{with_mark}
use Rattle.theory_naming.proofs.Apart.{after_exact}
use Rattle.script_names.specs.Names.{underscores}

words_behind : (mark t : Text) → are_all is_word mark ≡ true → are_all is_word t ≡ true → are_all is_word (mark ++ t) ≡ true
words_behind [] t m h = h
words_behind (c ∷ mark) t m h = let z = and_parts (is_word c) (are_all is_word mark) m in and_from (is_word c) (are_all is_word (mark ++ t)) z.0 (words_behind mark t z.1 h)

some_words : (mark t : Text) → are_all is_word mark ≡ true → are_some_words (Some t) ≡ true → are_some_words (Some (mark ++ t)) ≡ true
some_words mark [] m h = absurd (let z : false ≡ true = h in cc)
some_words [] (c ∷ cs) m h = h
some_words (d ∷ mark) (c ∷ cs) m h = words_behind (d ∷ mark) (c ∷ cs) m h

valid_words : (t : Text) → is_valid_name (anonymous ++ t) ≡ true → are_some_words (Some t) ≡ true
valid_words t h = h

words_valid : (t : Text) → are_some_words (Some t) ≡ true → is_valid_name (anonymous ++ t) ≡ true
words_valid t h = h

pub mark_valid : (mark f : Text) → are_all is_word mark ≡ true → is_valid_name f ≡ true → is_valid_name (with_mark mark f) ≡ true
mark_valid mark f m h = by (after anonymous f) refl where
  by : (o : Option Text) → after anonymous f ≡ o → is_valid_name (elim o [ None ↦ f | Some t ↦ anonymous ++ mark ++ t ]) ≡ true
  by None e = h
  by (Some t) e = words_valid (mark ++ t) (some_words mark t m (valid_words t (sym (ap is_valid_name (after_exact anonymous f t e)) ∙ h)))

pub underscores_are_words : (n : ℕ) → are_all is_word (underscores n) ≡ true
underscores_are_words zero = refl
underscores_are_words (suc n) = underscores_are_words n

pub unread_is_words : are_all is_word unread ≡ true
unread_is_words = refl
