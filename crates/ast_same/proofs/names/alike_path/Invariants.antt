use Rattle.std.proofs.Common.{◌≡◌, drop}
use Rattle.theory_meaning.specs.Engine.{same_texts}
use Rattle.ast_same.proofs.Items.{path_names}
use Rattle.ast_same.proofs.names.alike_path.Given as goal

abbrev pub invariant-loop-module : goal.invariant-loop-module
invariant-loop-module l = same_texts (path_names (drop l.module-index l.first.path)) (path_names l.rest) ≡ same_texts (path_names l.first.path) (path_names l.second.path)
