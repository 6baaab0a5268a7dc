-- Places: a name or `this`, and the keys that lead on from there through arrays and maps.
use Rattle.std.specs.Prelude.{Bool, not, List, [], ◌∷◌, ◌++◌, Option, Some, None, ℤ, option_map}
use Rattle.rhai_base.specs.Value.{Text, Value, ArrayV, MapV, same}
use Rattle.theory_meaning.specs.Act.{NoPlace, Root, Act, Fail, Read, Write}
use Rattle.theory_meaning.specs.ActForms.{give, unit, ◌>>=◌}
use Rattle.theory_meaning.specs.Elements.{at_index, element, with_element, entry, with_entry}

-- a step from a value to a part of it
pub data PlaceKey : Type 0 where
  AtIndex : ℤ → PlaceKey
  AtEntry : Text → PlaceKey

-- a name or `this`, and the way on from there
pub record Place : Type 0 where
  pub root : Root
  pub keys : List PlaceKey

-- a value, and where it stands
pub record Current : Type 0 where
  pub value : Value
  pub place : Option Place

-- ---- parts of a value along a place

abbrev pub inside : Value → PlaceKey → Option Value
inside (ArrayV vs) (AtIndex i) = element vs i
inside (MapV fs) (AtEntry k) = Some (entry fs k)
inside _ _ = None

abbrev pub along : Value → List PlaceKey → Option Value
along v [] = Some v
along v (k ∷ ks) = at_index (inside v k) (λ w. along w ks)

abbrev pub with_inside : Value → PlaceKey → Value → Option Value
with_inside (ArrayV vs) (AtIndex i) w = option_map ArrayV (with_element vs i w)
with_inside (MapV fs) (AtEntry k) w = Some (MapV (with_entry fs k w))
with_inside _ _ w = None

abbrev pub with_along : Value → List PlaceKey → Value → Option Value
with_along v [] w = Some w
with_along v (k ∷ ks) w =
    at_index (inside v k) (λ u. at_index (with_along u ks w) (λ u'. with_inside v k u'))

abbrev pub or_no_place : Option Value → (Value → Act) → Act
or_no_place (Some v) next = next v
or_no_place None next = Fail NoPlace

abbrev pub read_place : Place → Act
read_place p = Read p.root >>= λ v. or_no_place (along v p.keys) give

-- must: a constant's part can't be written, which is stuck; else it stays as it is
abbrev pub write_place : Bool → Place → Value → Act
write_place must p w = Read p.root >>= λ v. or_no_place (with_along v p.keys w) (λ u. Write must p.root u)

abbrev pub under : PlaceKey → Place → Place
under k p = record p { keys = p.keys ++ k ∷ [] }

-- the part of a current value at a key
abbrev pub part : Current → PlaceKey → Value → Current
part c k v = record { value = v; place = option_map (under k) c.place }

abbrev pub without_place : Value → Current
without_place v = record { value = v; place = None }

abbrev pub at_root : Value → Root → Current
at_root v r = record { value = v; place = Some (record { root = r; keys = [] }) }

-- read again, as what was evaluated since may have changed it
abbrev pub again_at : Current → Option Place → (Current → Act) → Act
again_at c None next = next c
again_at c (Some p) next = read_place p >>= λ v. next (record c { value = v })

abbrev pub refreshed : Current → (Current → Act) → Act
refreshed c next = again_at c c.place next

-- A new receiver goes to the place, if any: in a variable's place always, so that a missing entry is added. In a
-- constant's place a different value is stuck, and an equal one changes nothing.
abbrev pub put_at : Value → Value → Option Place → Act
put_at old new None = unit
put_at old new (Some p) = write_place (not (same old new)) p new

abbrev pub put_back : Current → Option Value → Act
put_back c None = unit
put_back c (Some new) = put_at c.value new c.place
