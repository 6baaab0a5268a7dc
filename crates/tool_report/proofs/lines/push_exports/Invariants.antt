use Rattle.std.proofs.Common.{◌≡◌, ◌++◌, map, drop, string_bytes}
use Rattle.run_host.specs.Entries.{export_meant}
use Rattle.tool_report.specs.Parts.{export_parts, lines_text}
use Rattle.tool_report.proofs.lines.push_exports.Given as goal

abbrev pub invariant-loop-export : goal.invariant-loop-export
invariant-loop-export l =
    string_bytes l.to ++ lines_text (map export_parts (map export_meant (drop l.export-index l.exports))) ≡ string_bytes l.initial.to ++ lines_text (map export_parts (map export_meant l.exports))
