use Rattle.std.proofs.Common.{◌≡◌, [], ◌++◌, drop, string_bytes}
use denote.Text.{Utf8}
use denote.Shadow.{shadow}
use Rattle.notation_print.specs.Nodes.{names_text}
use Rattle.notation_print.proofs.names.push_names.Given as goal

abbrev pub invariant-loop-name : goal.invariant-loop-name
invariant-loop-name l =
    shadow (Utf8 l.before) × (string_bytes l.text ++ names_text l.before (drop l.name-index l.names) ≡ string_bytes l.initial.text ++ names_text [] l.names)
