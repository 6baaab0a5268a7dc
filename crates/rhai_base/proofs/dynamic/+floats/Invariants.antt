use Rattle.std.proofs.Common.{◌≡◌, ℕ, List, ◌++◌, drop, map}
use Rattle.rhai_base.specs.Value.{values, fields, hold_float, fields_hold_float}
use Rattle.rhai_base.specs.Reading.{value_of, members_of}
use Rattle.rhai_base.specs.declared.dynamic.Dynamic.{Dynamic}
use Rattle.rhai_base.proofs.dynamic.+floats.Given as goal

abbrev pub invariant-floats::hold_float-loop-item : goal.invariant-floats::hold_float-loop-item
invariant-floats::hold_float-loop-item l =
    hold_float (values (map value_of l.items)) ≡ hold_float (values (map value_of (drop l.item-index l.item-items)))

abbrev pub invariant-floats::have_float-loop-member : goal.invariant-floats::have_float-loop-member
invariant-floats::have_float-loop-member l =
    (done : List (List ℕ × Dynamic)) × (l.members ≡ done ++ l.member-iterator)
    × (fields_hold_float (fields (members_of l.members)) ≡ fields_hold_float (fields (members_of l.member-iterator)))
