use Rattle.std.proofs.Common.{◌≡◌, ◌++◌, map, take}
use Rattle.ast_types.specs.Reading.{expr_of}
use Rattle.ast_alike.proofs.Entries.{Members, literal_entry}
use Rattle.ast_alike.proofs.Lists.{literal_item, named_item}
use Rattle.ast_alike.proofs.constants.+written.Given as goal

abbrev pub invariant-literals_of-loop-item : goal.invariant-literals_of-loop-item
invariant-literals_of-loop-item l = map expr_of l.literals ≡ map literal_item (take l.item-index l.items)

abbrev pub invariant-entries_of-loop-key : goal.invariant-entries_of-loop-key
invariant-entries_of-loop-key l = (done : Members) × (l.members ≡ done ++ l.key-iterator) × (map named_item l.entries ≡ map literal_entry done)
