-- What an index comes to.
use Rattle.std.specs.Prelude.{◌≡◌, true, [], ◌∷◌, codes}
use Rattle.rhai_base.specs.Reading.{value_of}
use Rattle.rhai_base.specs.Value.{Value}
use Rattle.theory_meaning.specs.Act.{Act}
use Rattle.theory_meaning.specs.ActForms.{throw}
use Rattle.theory_meaning.specs.Chains.{ask_for, index, set_by_host, set_index}
use Rattle.theory_meaning.specs.Places.{Place, Current, inside, part, under, without_place, write_place}
use Rattle.run_places.specs.declared.steps.Indexed.{Indexed}
use Rattle.run_places.specs.declared.steps.Indexed.TheVariants as indexed
use Rattle.run_places.specs.declared.steps.IndexTarget.{IndexTarget}
use Rattle.run_places.specs.declared.steps.IndexTarget.TheVariants as target
use Rattle.run_places.specs.Reading.{key_meant, or_unit}

-- how a chain goes on from a current value and its index
abbrev pub goes_on : Current → Value → Indexed → (Current → Act) → Act
goes_on c v (indexed.Part k) next = next (part c (key_meant k) (or_unit (inside v (key_meant k))))
goes_on c v (indexed.Value w) next = next (without_place (value_of w))
goes_on c v (indexed.Throws t) next = throw t.now
goes_on c v (indexed.AsksHost i) next = ask_for (codes "index$get$") v (value_of i ∷ []) next

abbrev pub IsIndexed : Value → Value → Indexed → Type 0
IsIndexed v i r = (c : Current) (next : Current → Act) → index c v i next ≡ goes_on c v r next

-- how a value is written at an index of a current one
abbrev pub writes : Value → Place → Current → IndexTarget → Act
writes w at c (target.Part k) = write_place true (under (key_meant k) at) w
writes w at c (target.Throws t) = throw t.now
writes w at c (target.AsksHost i) = set_by_host (codes "index$set$") (value_of i ∷ w ∷ []) c

abbrev pub IsIndexTarget : Value → Value → IndexTarget → Type 0
IsIndexTarget v i r = (w : Value) (at : Place) (c : Current) → set_index w at c v i ≡ writes w at c r
