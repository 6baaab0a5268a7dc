-- One pass over the statements of a script or of a body.
use Rattle.std.specs.Prelude.{◌≡◌, Bool, false}
use Rattle.theory_meaning.specs.Engine.{Engine}
use Rattle.theory_meaning.specs.Tree.{Stmts}
use Rattle.theory_rewriting.specs.Context.{Whole, knowing}
use Rattle.theory_rewriting.specs.Finished.{IsFinished}
use Rattle.theory_rewriting.specs.Rewriting.{StmtsTo}
use Rattle.theory_rewriting.specs.Steps.{Progress, IsReducedBody}

-- from a clear flag, with the names that are known; set: whether the flag is set behind it; where it is not, nothing is left to do
pub record PassRun (r : Engine) (set : Bool) (s s' : Progress) (ss ss' : Stmts) : Type 0 where
  pub to : StmtsTo (knowing r s.known) Whole false set ss ss'
  pub reduced : IsReducedBody r ss'
  pub known : s'.known ≡ s.known
  pub finished : set ≡ false → IsFinished (knowing r s.known) ss'
