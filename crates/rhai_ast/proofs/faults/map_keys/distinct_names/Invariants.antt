use Rattle.rhai_ast.specs.MapKeys.{names_of}
use Rattle.rhai_ast.proofs.KeyLists.{NamesSoFar}
use Rattle.rhai_ast.proofs.faults.map_keys.distinct_names.Given as goal

abbrev pub invariant-loop-member : goal.invariant-loop-member
invariant-loop-member l = NamesSoFar (names_of l.members) l.member-index l.names
