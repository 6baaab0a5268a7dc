use Rattle.std.proofs.Common.{◌≡◌, [], ◌++◌, drop, string_bytes}
use denote.Text.{Utf8}
use denote.Shadow.{shadow}
use Rattle.ast_types.specs.Reading.{shared_names}
use Rattle.notation_print.specs.Nodes.{names_text}
use Rattle.notation_print.proofs.names.push_shared.Given as goal

abbrev pub invariant-loop-shared : goal.invariant-loop-shared
invariant-loop-shared l =
    shadow (Utf8 l.before) × (string_bytes l.text ++ names_text l.before (shared_names (drop l.shared-index l.names)) ≡ string_bytes l.initial.text ++ names_text [] (shared_names l.names))
