use Rattle.std.proofs.Common.{◌≡◌, drop, map}
use Rattle.rhai_base.specs.Reading.{members_of, value_of}
use Rattle.rhai_base.specs.Value.{fields}
use Rattle.std.specs.String.{string_bytes}
use Rattle.theory_meaning.specs.Constants.{constant_values, constant_entries, joined_value, map_value}
use Rattle.ast_types.specs.Reading.{exprs_of, pairs_of}
use Rattle.ast_nodes.proofs.LiteralLists.{joined_from, map_from, values_before}
use Rattle.ast_nodes.proofs.literals.+lend_value.Given as goal

abbrev pub invariant-array_value-loop-item : goal.invariant-array_value-loop-item
invariant-array_value-loop-item l = constant_values (exprs_of l.items) ≡ values_before (map value_of l.values.items) (constant_values (exprs_of (drop l.item-index l.items)))

abbrev pub invariant-joined_value-loop-part : goal.invariant-joined_value-loop-part
invariant-joined_value-loop-part l = joined_value (constant_values (exprs_of l.parts)) ≡ joined_from (string_bytes l.text) (constant_values (exprs_of (drop l.part-index l.parts)))

abbrev pub invariant-map_value-loop-member : goal.invariant-map_value-loop-member
invariant-map_value-loop-member l = map_value (constant_entries (pairs_of l.members)) ≡ map_from (fields (members_of l.map)) (constant_entries (pairs_of (drop l.member-index l.members)))
