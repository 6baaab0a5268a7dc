-- What `get` answers of a list that has another name too.
use Rattle.std.proofs.Common.{◌≡◌, ℕ, List, Some, None, slice_get, length, refl, sym, ap, ◌∙◌}
use Rattle.std.specs.Borrow.{Bor}
use Rattle.std.specs.Slice.{IsItemAt}
use Rattle.std.proofs.lemmas.Option.{slice_get_past, slice_get_read}

pub item_there : {A : Type 0} → (ys xs : List A) (i : ℕ) (x : Bor A) → xs ≡ ys → IsItemAt xs i (Some x) → slice_get ys i ≡ Some x.now
item_there ys xs i x same h = ap (λ zs. slice_get zs i) (sym same) ∙ slice_get_read xs (length xs) i x.now refl h.3.0 h.1

pub item_past : {A : Type 0} → (ys xs : List A) (i : ℕ) → xs ≡ ys → IsItemAt xs i None → slice_get ys i ≡ None
item_past ys xs i same h = ap (λ zs. slice_get zs i) (sym same) ∙ slice_get_past xs i h.3
