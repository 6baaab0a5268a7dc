use Rattle.std.proofs.Common.{◌≡◌, length, map}
use Rattle.rhai_base.specs.Reading.{value_of}
use Rattle.theory_meaning.specs.Constants.{constant_values}
use Rattle.ast_types.specs.Reading.{exprs_of}
use Rattle.ast_nodes.proofs.LiteralLists.{values_before}
use Rattle.ast_nodes.proofs.taken.taken_array.Given as goal

abbrev pub invariant-loop-item : goal.invariant-loop-item
invariant-loop-item l = constant_values (exprs_of l.fn.items) ≡ values_before (map value_of l.values.items) (constant_values (exprs_of l.rest))

abbrev pub decreases-loop-item : goal.decreases-loop-item
decreases-loop-item l = length l.rest
