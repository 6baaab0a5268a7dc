use Rattle.std.proofs.Common.{◌≡◌, ◌++◌, drop, string_bytes}
use Rattle.notation_print.specs.Nodes.{numbers_text}
use Rattle.notation_print.proofs.tables.push_places.Given as goal

abbrev pub invariant-loop-place : goal.invariant-loop-place
invariant-loop-place l =
    string_bytes l.text ++ numbers_text (drop l.place-index l.places) ≡ string_bytes l.initial.text ++ numbers_text l.places
