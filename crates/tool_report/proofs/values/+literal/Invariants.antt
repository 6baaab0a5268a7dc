use Rattle.std.proofs.Common.{◌≡◌, ℕ, List, [], ◌++◌, map, drop, string_bytes}
use denote.Text.{Utf8}
use denote.Shadow.{shadow}
use Rattle.rhai_base.specs.Reading.{members_of, value_of}
use Rattle.rhai_base.specs.Value.{fields, values}
use Rattle.rhai_base.specs.declared.dynamic.Dynamic.{Dynamic}
use Rattle.tool_report.specs.Literals.{literals, members}
use Rattle.tool_report.proofs.values.+literal.Given as goal

abbrev pub invariant-push_values-loop-value : goal.invariant-push_values-loop-value
invariant-push_values-loop-value l =
    shadow (Utf8 l.separator)
    × (string_bytes l.to ++ literals l.separator (values (map value_of (drop l.value-index l.items))) ≡ string_bytes l.initial.to ++ literals l.before (values (map value_of l.items)))

abbrev pub invariant-push_members-loop-key : goal.invariant-push_members-loop-key
invariant-push_members-loop-key l =
    (done : List (List ℕ × Dynamic)) × (l.pairs ≡ done ++ l.key-iterator) × shadow (Utf8 l.separator)
    × (string_bytes l.to ++ members l.separator (fields (members_of l.key-iterator)) ≡ string_bytes l.initial.to ++ members [] (fields (members_of l.pairs)))
