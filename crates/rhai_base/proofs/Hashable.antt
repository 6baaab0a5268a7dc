-- Lists of items, one after another.
use Rattle.std.proofs.Common.{◌≡◌, ℕ, ◌+◌, ◌<◌, ◌&&◌, List, length, get_or, drop, map, refl, add-one, ap, true}
use Rattle.std.proofs.Math.Seq.{drop-cons, drop-length}
use Rattle.rhai_base.specs.declared.dynamic.Dynamic.{Dynamic}
use Rattle.rhai_base.specs.Value.{values, is_hashable, are_hashable}
use Rattle.rhai_base.specs.Reading.{value_of}

pub are_hashable-drop : (xs : List Dynamic) (i : ℕ) (d : Dynamic) → i < length xs
    → are_hashable (values (map value_of (drop i xs))) ≡ is_hashable (value_of (get_or xs i d)) && are_hashable (values (map value_of (drop (i + 1) xs)))
are_hashable-drop xs i d h = rw (add-one, drop-cons xs i d) refl

pub are_hashable-end : (xs : List Dynamic) → are_hashable (values (map value_of (drop (length xs) xs))) ≡ true
are_hashable-end xs = ap (λ ys. are_hashable (values (map value_of ys))) (drop-length xs)

pub ruleset steps = (are_hashable-drop, are_hashable-end)
