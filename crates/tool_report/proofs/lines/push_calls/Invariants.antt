use Rattle.std.proofs.Common.{◌≡◌, ◌++◌, map, drop, string_bytes}
use Rattle.run_host.specs.Host.{call_meant}
use Rattle.tool_report.specs.Parts.{call_parts, lines_text}
use Rattle.tool_report.proofs.lines.push_calls.Given as goal

abbrev pub invariant-loop-call : goal.invariant-loop-call
invariant-loop-call l =
    string_bytes l.to ++ lines_text (map call_parts (map call_meant (drop l.call-index l.calls))) ≡ string_bytes l.initial.to ++ lines_text (map call_parts (map call_meant l.calls))
