use Rattle.std.proofs.Common.{◌≡◌, ◌++◌, map, drop, string_bytes}
use Rattle.run_host.specs.Entries.{export_meant}
use Rattle.run_host.specs.Print.{exports_text}
use Rattle.run_host.proofs.print.push_exports.Given as goal

abbrev pub invariant-loop-export : goal.invariant-loop-export
invariant-loop-export l =
    string_bytes l.text ++ exports_text (map export_meant (drop l.export-index l.exports)) ≡ string_bytes l.initial.text ++ exports_text (map export_meant l.exports)
