use Rattle.std.proofs.Common.{◌≡◌, ℕ, List, ◌++◌, [], codes, drop, true}
use Rattle.std.specs.Fmt.{HasWritten, IsPlainFormatter}
use Rattle.std.specs.Str.{IsUtf8}
use Rattle.rhai_base.specs.declared.dynamic.Dynamic.{Dynamic}
use Rattle.rhai_base.specs.Value.{Text}
use Rattle.rhai_base.proofs.Forms.{items_after, members_after}
use Rattle.rhai_base.proofs.dynamic.text.+form.Given as goal

abbrev pub invariant-write_items-loop-item : goal.invariant-write_items-loop-item
invariant-write_items-loop-item g l =
    (written : Text) × (written ++ items_after l.full l.separator (drop l.item-index l.item-items) ≡ items_after l.full [] l.items)
    × (IsPlainFormatter l.initial.f → HasWritten g.W.Write.write_str_gives l.initial.f written l.f) × IsUtf8 l.separator

abbrev pub invariant-write_members-loop-key : goal.invariant-write_members-loop-key
invariant-write_members-loop-key g l =
    (done : List (List ℕ × Dynamic)) × (l.members ≡ done ++ l.key-iterator)
    × (written : Text) × (written ++ members_after l.full l.before l.key-iterator ≡ members_after l.full [] l.members)
    × (IsPlainFormatter l.initial.f → HasWritten g.W.Write.write_str_gives l.initial.f written l.f) × IsUtf8 l.before

abbrev pub invariant-write_pointer-loop-value : goal.invariant-write_pointer-loop-value
invariant-write_pointer-loop-value g l =
    (written : Text) × (written ++ items_after true (codes ", ") (drop l.value-index l.value-items) ≡ items_after true (codes ", ") l.pointer.curried)
    × (IsPlainFormatter l.initial.f → HasWritten g.W.Write.write_str_gives l.initial.f written l.f)
