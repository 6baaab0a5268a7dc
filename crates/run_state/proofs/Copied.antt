-- Items copied one after another.
use Rattle.std.proofs.Common.{◌≡◌, ℕ, ◌+◌, ◌<◌, ◌≤◌, ◌++◌, List, [], ◌∷◌, length, drop, get_or, sym, ap, ◌∙◌, append_assoc, append-nil}
use Rattle.std.proofs.lemmas.List.{drop_all, drop_more}

pub push_next : {A : Type 0} (done done' whole xs : List A) (i : ℕ) (x : A) → i < length xs → x ≡ get_or xs i x → done ++ drop i xs ≡ whole → done' ≡ done ++ x ∷ [] → done' ++ drop (i + 1) xs ≡ whole
push_next done done' whole xs i x h is p q =
    ap (λ l. l ++ drop (i + 1) xs) q
    ∙ append_assoc done (x ∷ []) (drop (i + 1) xs)
    ∙ ap (λ l. done ++ l) (sym (drop_more xs i x h ∙ ap (λ y. y ∷ drop (i + 1) xs) (sym is)))
    ∙ p

pub push_end : {A : Type 0} (done whole xs : List A) (i : ℕ) → length xs ≤ i → done ++ drop i xs ≡ whole → done ≡ whole
push_end done whole xs i h p = sym (append-nil done) ∙ ap (λ l. done ++ l) (sym (drop_all i xs h)) ∙ p
