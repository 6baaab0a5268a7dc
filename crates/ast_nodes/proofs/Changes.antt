-- The items of a list changed in turn, in their places.
use Rattle.std.proofs.Common.{◌≡◌, ℕ, zero, suc, ◌+◌, ◌<◌, ◌≤◌, List, [], ◌∷◌, map, length, get_or, refl, sym, ap, ◌∙◌, arith, add-one}
use Rattle.std.proofs.Math.ListN.{set}

module _ {X : Type 0} (f : X → X) where
  -- the first so many are changed
  abbrev pub first_changed : List X → ℕ → List X
  first_changed [] i = []
  first_changed (x ∷ xs) zero = x ∷ xs
  first_changed (x ∷ xs) (suc i) = f x ∷ first_changed xs i

  pub none_changed : (xs : List X) → xs ≡ first_changed xs 0
  none_changed [] = refl
  none_changed (x ∷ xs) = refl

  next_changed : (xs : List X) (i : ℕ) (d : X) → i < length xs → set (first_changed xs i) i (f (get_or (first_changed xs i) i d)) ≡ first_changed xs (suc i)
  next_changed [] i d h = absurd (omega arith)
  next_changed (x ∷ xs) zero d h = ap (λ ys. f x ∷ ys) (none_changed xs)
  next_changed (x ∷ xs) (suc i) d h = ap (λ ys. f x ∷ ys) (next_changed xs i d (omega arith))

  pub one_more_changed : (xs ys : List X) (i : ℕ) (d : X) → i < length xs → ys ≡ first_changed xs i → set ys i (f (get_or ys i d)) ≡ first_changed xs (i + 1)
  one_more_changed xs ys i d h e = ap (λ zs. set zs i (f (get_or zs i d))) e ∙ next_changed xs i d h ∙ ap (first_changed xs) (sym (add-one i))

  all_of : (xs : List X) (i : ℕ) → length xs ≤ i → first_changed xs i ≡ map f xs
  all_of [] i h = refl
  all_of (x ∷ xs) zero h = absurd (omega arith)
  all_of (x ∷ xs) (suc i) h = ap (λ ys. f x ∷ ys) (all_of xs i (omega arith))

  pub all_changed : (xs ys : List X) (i : ℕ) → length xs ≤ i → ys ≡ first_changed xs i → ys ≡ map f xs
  all_changed xs ys i h e = e ∙ all_of xs i h
