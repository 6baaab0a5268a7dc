use Rattle.std.proofs.Common.{◌≡◌, length}
use Rattle.rhai_base.specs.Reading.{members_of}
use Rattle.rhai_base.specs.Value.{fields}
use Rattle.theory_meaning.specs.Constants.{constant_entries, map_value}
use Rattle.ast_types.specs.Reading.{pairs_of}
use Rattle.ast_nodes.proofs.LiteralLists.{map_from}
use Rattle.ast_nodes.proofs.taken.taken_map.Given as goal

abbrev pub invariant-loop-name : goal.invariant-loop-name
invariant-loop-name l = map_value (constant_entries (pairs_of l.fn.members)) ≡ map_from (fields (members_of l.map)) (constant_entries (pairs_of l.rest))

abbrev pub decreases-loop-name : goal.decreases-loop-name
decreases-loop-name l = length l.rest
