use Rattle.std.proofs.Common.{◌≡◌, drop}
use Rattle.theory_meaning.specs.Engine.{same_texts}
use Rattle.ast_types.specs.Reading.{shared_names}
use Rattle.ast_same.proofs.names.alike_shared.Given as goal

abbrev pub invariant-loop-shared : goal.invariant-loop-shared
invariant-loop-shared l = same_texts (shared_names (drop l.shared-index l.first)) (shared_names l.rest) ≡ same_texts (shared_names l.first) (shared_names l.second)
