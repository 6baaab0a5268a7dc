use Rattle.std.proofs.Common.{◌≡◌, ◌++◌, length}
use Rattle.theory_spelling.specs.Captures.{without}
use Rattle.ast_types.specs.Reading.{shared_names}
use Rattle.ast_alike.proofs.captures.without.Given as goal

abbrev pub invariant-loop-shared : goal.invariant-loop-shared
invariant-loop-shared l = shared_names l.kept ++ without l.name (shared_names l.rest) ≡ without l.name (shared_names l.fn.names)

abbrev pub decreases-loop-shared : goal.decreases-loop-shared
decreases-loop-shared l = length l.rest
