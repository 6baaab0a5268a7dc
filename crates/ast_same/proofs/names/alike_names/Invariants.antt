use Rattle.std.proofs.Common.{◌≡◌, drop}
use Rattle.theory_meaning.specs.Engine.{same_texts}
use Rattle.ast_same.proofs.names.alike_names.Given as goal

abbrev pub invariant-loop-name : goal.invariant-loop-name
invariant-loop-name l = same_texts (drop l.name-index l.first) l.rest ≡ same_texts l.first l.second
