use Rattle.std.proofs.Common.{◌≡◌, ◌++◌, map, drop, string_bytes}
use Rattle.run_host.specs.Entries.{variable_meant}
use Rattle.tool_report.specs.Parts.{variable_parts, lines_text}
use Rattle.tool_report.proofs.lines.push_variables.Given as goal

abbrev pub invariant-loop-variable : goal.invariant-loop-variable
invariant-loop-variable l =
    string_bytes l.to ++ lines_text (map variable_parts (map variable_meant (drop l.variable-index l.variables))) ≡ string_bytes l.initial.to ++ lines_text (map variable_parts (map variable_meant l.variables))
