use Rattle.std.proofs.Common.{◌≡◌, ℕ, List, ◌++◌, drop, map}
use Rattle.rhai_base.specs.Value.{values, fields, are_hashable, fields_hashable}
use Rattle.rhai_base.specs.Reading.{value_of, members_of}
use Rattle.rhai_base.specs.declared.dynamic.Dynamic.{Dynamic}
use Rattle.rhai_base.proofs.dynamic.+hashable.Given as goal

abbrev pub invariant-hashable::are_hashable-loop-item : goal.invariant-hashable::are_hashable-loop-item
invariant-hashable::are_hashable-loop-item l =
    are_hashable (values (map value_of l.items)) ≡ are_hashable (values (map value_of (drop l.item-index l.item-items)))

abbrev pub invariant-hashable::have_hashable-loop-member : goal.invariant-hashable::have_hashable-loop-member
invariant-hashable::have_hashable-loop-member l =
    (done : List (List ℕ × Dynamic)) × (l.members ≡ done ++ l.member-iterator)
    × (fields_hashable (fields (members_of l.members)) ≡ fields_hashable (fields (members_of l.member-iterator)))
