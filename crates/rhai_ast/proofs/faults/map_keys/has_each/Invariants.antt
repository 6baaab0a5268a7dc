use Rattle.std.proofs.Common.{◌≡◌}
use Rattle.theory_meaning.specs.Shape.{are_among}
use Rattle.ast_types.specs.Reading.{keys_of}
use Rattle.rhai_ast.specs.MapKeys.{texts_of}
use Rattle.rhai_ast.proofs.faults.map_keys.has_each.Given as goal

abbrev pub invariant-loop-key : goal.invariant-loop-key
invariant-loop-key l = are_among (keys_of l.template) (texts_of l.names) ≡ are_among (keys_of l.key-iterator) (texts_of l.names)
