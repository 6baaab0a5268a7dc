-- Names, one after another, for a loop that copies them.
use Rattle.std.proofs.Common.{◌≡◌, ℕ, ◌+◌, ◌<◌, List, [], ◌∷◌, map, length, get_or, drop, refl, ap, add-one}
use Rattle.std.proofs.Math.Seq.{drop-cons, drop-length}
use Rattle.std.specs.Borrow.{Bor}
use Rattle.rhai_base.specs.Value.{Text}

pub names-drop : (xs : List (Bor Text)) (i : ℕ) (d : Bor Text) → i < length xs
    → map (λ name. name.now) (drop i xs) ≡ (get_or xs i d).now ∷ map (λ name. name.now) (drop (i + 1) xs)
names-drop xs i d h = rw (add-one, drop-cons xs i d) refl

pub names-end : (xs : List (Bor Text)) → map (λ name. name.now) (drop (length xs) xs) ≡ []
names-end xs = ap (map (λ (name : Bor Text). name.now)) (drop-length xs)

pub ruleset steps = (names-drop, names-end)
