-- Texts of values, joined.
use Rattle.std.proofs.Common.{◌≡◌, ℕ, ◌+◌, ◌<◌, ◌≤◌, ◌++◌, List, map, length, drop, get_or, sym, ap, ◌∙◌, append_assoc, append-nil}
use Rattle.std.proofs.lemmas.List.{drop_all, drop_more}
use Rattle.rhai_base.specs.declared.dynamic.Dynamic.{Dynamic}
use Rattle.rhai_base.specs.Reading.{value_of}
use Rattle.rhai_base.specs.Value.{Text, Value}
use Rattle.theory_meaning.specs.Control.{texts_joined}

-- the texts so far, and what is left to join
pub texts_next : (f : Value → Text) (done done' whole : Text) (xs : List Dynamic) (i : ℕ) (x : Dynamic) → i < length xs → x ≡ get_or xs i x → done ++ texts_joined f (map value_of (drop i xs)) ≡ whole → done' ≡ done ++ f (value_of x) → done' ++ texts_joined f (map value_of (drop (i + 1) xs)) ≡ whole
unfolding texts_joined
texts_next f done done' whole xs i x h is p q =
    let rest = texts_joined f (map value_of (drop (i + 1) xs)) in
    ap (λ t. t ++ rest) q ∙ append_assoc done (f (value_of x)) rest
    ∙ ap (λ (y : Dynamic). done ++ (f (value_of y) ++ rest)) is
    ∙ ap (λ l. done ++ texts_joined f (map value_of l)) (sym (drop_more xs i x h)) ∙ p

pub texts_end : (f : Value → Text) (done whole : Text) (xs : List Dynamic) (i : ℕ) → length xs ≤ i → done ++ texts_joined f (map value_of (drop i xs)) ≡ whole → done ≡ whole
unfolding texts_joined
texts_end f done whole xs i h p = sym (append-nil done) ∙ ap (λ l. done ++ texts_joined f (map value_of l)) (sym (drop_all i xs h)) ∙ p
