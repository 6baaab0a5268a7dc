use Rattle.std.proofs.Common.{◌≡◌, [], ◌++◌, map, string_bytes}
use denote.Text.{Utf8}
use denote.Shadow.{shadow}
use Rattle.ast_types.specs.Reading.{case_of}
use Rattle.notation_print.specs.Nodes.{cases_text}
use Rattle.notation_print.proofs.tables.push_cases.Given as goal

abbrev pub invariant-loop-case : goal.invariant-loop-case
invariant-loop-case l =
    shadow (Utf8 l.before) × (string_bytes l.text ++ cases_text l.before (map case_of l.case-iterator) ≡ string_bytes l.initial.text ++ cases_text [] (map case_of l.cases))
