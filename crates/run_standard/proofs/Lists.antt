-- Arrays and their items.
use Rattle.std.proofs.Common.{◌≡◌, ℕ, suc, ◌+◌, ◌<◌, List, [], ◌∷◌, ◌++◌, map, reverse, length, get_or, take, drop, refl, sym, ap, ◌∙◌, add-one}
use Rattle.std.proofs.Math.Seq.{drop-cons, drop-length}
use Rattle.std.proofs.lemmas.List.{length-map, get_or-map, take-map, drop-map, map-append, reverse-append}
use Rattle.std.specs.List.{insert, remove}
use Rattle.rhai_base.specs.declared.dynamic.Dynamic.{Dynamic}
use Rattle.rhai_base.specs.Reading.{value_of}
use Rattle.rhai_base.specs.Value.{Value, UnitV, items, values}

pub items-values : (vs : List Value) → items (values vs) ≡ vs
items-values [] = refl
items-values (v ∷ vs) = ap (λ us. v ∷ us) (items-values vs)

pub values-drop : (xs : List Dynamic) (i : ℕ) (d : Dynamic) → i < length xs → map value_of (drop i xs) ≡ value_of (get_or xs i d) ∷ map value_of (drop (i + 1) xs)
values-drop xs i d h = rw (add-one, drop-cons xs i d) refl

pub values-end : (xs : List Dynamic) → map value_of (drop (length xs) xs) ≡ []
values-end xs = ap (map value_of) (drop-length xs)

pub values-length : (xs : List Dynamic) → length (map value_of xs) ≡ length xs
values-length xs = length-map xs value_of

pub values-append : (xs ys : List Dynamic) → map value_of (xs ++ ys) ≡ map value_of xs ++ map value_of ys
values-append xs ys = map-append value_of xs ys

pub values-at : (xs : List Dynamic) (i : ℕ) (d : Dynamic) → i < length xs → get_or (map value_of xs) i UnitV ≡ value_of (get_or xs i d)
values-at xs i d h = get_or-map value_of xs i d UnitV h

pub values-take : (xs : List Dynamic) (n : ℕ) → map value_of (take n xs) ≡ take n (map value_of xs)
values-take xs n = sym (take-map value_of n xs)

pub values-reverse : (xs : List Dynamic) → map value_of (reverse xs) ≡ reverse (map value_of xs)
values-reverse [] = refl
values-reverse (x ∷ xs) =
    ap (map value_of) (reverse-append (x ∷ []) xs) ∙ map-append value_of (reverse xs) (x ∷ [])
    ∙ ap (λ vs. vs ++ value_of x ∷ []) (values-reverse xs) ∙ sym (reverse-append (value_of x ∷ []) (map value_of xs))

pub values-remove : (xs : List Dynamic) (i : ℕ) → map value_of (remove xs i) ≡ remove (map value_of xs) i
values-remove xs i = map-append value_of (take i xs) (drop (suc i) xs) ∙ cc (take-map value_of i xs, drop-map value_of (suc i) xs)

pub values-insert : (xs : List Dynamic) (i : ℕ) (x : Dynamic) → map value_of (insert xs i x) ≡ insert (map value_of xs) i (value_of x)
values-insert xs i x = map-append value_of (take i xs) (x ∷ drop i xs) ∙ cc (take-map value_of i xs, drop-map value_of i xs)

pub ruleset lists = (items-values, values-drop, values-end, values-length, values-append, values-at, values-take, values-reverse, values-remove, values-insert)
