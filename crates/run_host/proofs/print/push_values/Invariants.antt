use Rattle.std.proofs.Common.{◌≡◌, [], ◌++◌, map, drop, string_bytes}
use denote.Text.{Utf8}
use denote.Shadow.{shadow}
use Rattle.rhai_base.specs.Reading.{value_of}
use Rattle.run_host.specs.Print.{values_text}
use Rattle.run_host.proofs.print.push_values.Given as goal

abbrev pub invariant-loop-value : goal.invariant-loop-value
invariant-loop-value l =
    shadow (Utf8 l.before) × (string_bytes l.text ++ values_text l.before (map value_of (drop l.value-index l.values)) ≡ string_bytes l.initial.text ++ values_text [] (map value_of l.values))
