-- A rule that fired at a statement.
use Rattle.std.specs.Prelude.{◌≡◌, Bool, true, false}
use Rattle.theory_meaning.specs.Engine.{Engine}
use Rattle.theory_meaning.specs.Tree.{Stmt}
use Rattle.opt_base.specs.declared.step.NodeStep.{NodeStep}
use Rattle.opt_base.specs.declared.step.NodeStep.TheVariants as step
use Rattle.theory_rewriting.specs.Steps.{Progress, StmtFired, KeepsStmtParts}

-- what it made has parts that are reduced
abbrev pub Fires : Engine → Bool → Progress → Progress → Stmt → Stmt → Type 0
Fires r w s s' x x' = StmtFired r w s s' x x' × KeepsStmtParts x x'

-- or none did
abbrev pub FiresIf : Bool → Engine → Bool → Progress → Progress → Stmt → Stmt → Type 0
FiresIf true r w s s' x x' = Fires r w s s' x x'
FiresIf false r w s s' x x' = (x' ≡ x) × (s' ≡ s)

-- what comes of a statement, by whether it stays
abbrev pub answer : Bool → NodeStep
answer true = step.Kept
answer false = step.Rewritten
