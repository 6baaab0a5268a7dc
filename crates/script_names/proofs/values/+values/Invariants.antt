use Rattle.std.proofs.Common.{◌≡◌, ◌++◌, map, take}
use Rattle.rhai_base.specs.Reading.{members_of, value_of}
use Rattle.script_names.specs.Names.{stands}
use Rattle.script_names.proofs.Lists.{new_value}
use Rattle.script_names.proofs.Members.{Members, new_member}
use Rattle.script_names.proofs.values.+values.Given as goal

abbrev pub invariant-renamed_items-loop-item : goal.invariant-renamed_items-loop-item
invariant-renamed_items-loop-item l = map value_of l.copies ≡ map (new_value (stands l.names)) (take l.item-index l.items)

abbrev pub invariant-renamed_members-loop-key : goal.invariant-renamed_members-loop-key
invariant-renamed_members-loop-key l =
    (done : Members) × (l.members ≡ done ++ l.key-iterator) × (members_of l.copies ≡ map (new_member (stands l.names)) done)
