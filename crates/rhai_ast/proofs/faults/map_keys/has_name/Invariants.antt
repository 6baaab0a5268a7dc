use Rattle.std.proofs.Common.{◌≡◌, length}
use Rattle.base_tokens.specs.Names.{is_among}
use Rattle.rhai_ast.specs.MapKeys.{names_of}
use Rattle.rhai_ast.proofs.faults.map_keys.has_name.Given as goal

abbrev pub invariant-loop-first : goal.invariant-loop-first
invariant-loop-first l = is_among l.name (names_of l.members) ≡ is_among l.name (names_of l.rest)

abbrev pub decreases-loop-first : goal.decreases-loop-first
decreases-loop-first l = length l.rest
