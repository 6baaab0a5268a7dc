use Rattle.std.proofs.Common.{◌≡◌, [], ◌++◌, drop, map, string_bytes}
use denote.Text.{Utf8}
use denote.Shadow.{shadow}
use Rattle.ast_types.specs.Reading.{range_of}
use Rattle.notation_print.specs.Nodes.{ranges_text}
use Rattle.notation_print.proofs.tables.push_ranges.Given as goal

abbrev pub invariant-loop-range : goal.invariant-loop-range
invariant-loop-range l =
    shadow (Utf8 l.before) × (string_bytes l.text ++ ranges_text l.before (map range_of (drop l.range-index l.ranges)) ≡ string_bytes l.initial.text ++ ranges_text [] (map range_of l.ranges))
