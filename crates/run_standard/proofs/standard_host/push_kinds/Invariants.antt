use Rattle.std.proofs.Common.{◌≡◌, ◌++◌, map, drop, string_bytes}
use denote.Text.{Utf8}
use denote.Shadow.{shadow}
use Rattle.rhai_base.specs.Reading.{value_of}
use Rattle.run_standard.specs.Standard.{kinds_after}
use Rattle.run_standard.proofs.standard_host.push_kinds.Given as goal

abbrev pub invariant-loop-value : goal.invariant-loop-value
invariant-loop-value l =
    shadow (Utf8 l.before) × (string_bytes l.text ++ kinds_after l.before (map value_of (drop l.value-index l.values)) ≡ string_bytes l.initial.text ++ kinds_after l.initial.before (map value_of l.values))
