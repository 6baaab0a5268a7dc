use Rattle.std.proofs.Common.{◌≡◌}
use Rattle.theory_meaning.specs.Engine.{same_texts}
use Rattle.ast_types.specs.Reading.{keys_of}
use Rattle.ast_same.proofs.names.alike_keys.Given as goal

abbrev pub invariant-loop-key : goal.invariant-loop-key
invariant-loop-key l = same_texts (keys_of l.key-iterator) (keys_of l.rest) ≡ same_texts (keys_of l.first) (keys_of l.second)
