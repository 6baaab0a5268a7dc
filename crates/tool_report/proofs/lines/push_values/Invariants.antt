use Rattle.std.proofs.Common.{◌≡◌, ◌++◌, map, drop, string_bytes}
use Rattle.rhai_base.specs.Reading.{value_of}
use Rattle.tool_report.specs.Literals.{literal}
use Rattle.tool_report.specs.Parts.{more_parts}
use Rattle.tool_report.proofs.lines.push_values.Given as goal

abbrev pub invariant-loop-value : goal.invariant-loop-value
invariant-loop-value l =
    string_bytes l.to ++ more_parts (map literal (map value_of (drop l.value-index l.values))) ≡ string_bytes l.initial.to ++ more_parts (map literal (map value_of l.values))
