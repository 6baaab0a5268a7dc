-- A copy of a list whose items' copies equal them.
use Rattle.std.proofs.Common.{◌≡◌, List}
use Rattle.std.proofs.lemmas.List.Elements.{same_from_all_zip}
use Rattle.std.specs.List.{AllZip}

pub same_items : {A : Type 0} → (xs ys : List A) → AllZip (λ a b. b ≡ a) xs ys → ys ≡ xs
same_items xs ys h = same_from_all_zip _ xs ys h (λ a b e. e)

pub ruleset copies = (same_items)
