-- What came of the rules at a node.
use Rattle.std.specs.Prelude.{◌≡◌, Bool, true, false, Some}
use Rattle.rhai_base.specs.Value.{Value}
use Rattle.theory_meaning.specs.Constants.{constant_for, literal_value}
use Rattle.theory_meaning.specs.Engine.{Engine}
use Rattle.theory_meaning.specs.Tree.{Expr, Stmt}
use Rattle.opt_base.specs.declared.step.NodeStep.{NodeStep}
use Rattle.opt_base.specs.declared.step.NodeStep.TheVariants as step
use Rattle.theory_rewriting.specs.Steps.{Progress, Place, ExprFired, KeepsExprParts, ExprKept, StmtFired, KeepsStmtParts, StmtKept}

-- at an expression: whether one fired
abbrev pub ExprStep : Bool → Engine → Place → Progress → Progress → Expr → Expr → Type 0
ExprStep true r p s s' e e' = ExprFired r p s s' e e' × KeepsExprParts e e'
ExprStep false r p s s' e e' = ExprKept r p s s' e e'

abbrev pub StmtStep : NodeStep → Engine → Bool → Progress → Progress → Stmt → Stmt → Type 0
StmtStep step.Kept r w s s' x x' = StmtKept r s s' x x'
StmtStep step.Rewritten r w s s' x x' = StmtFired r w s s' x x' × KeepsStmtParts x x'
StmtStep step.Reopened r w s s' x x' = StmtFired r w s s' x x'

-- at a statement whose parts were not gone over: whether rules fired
abbrev pub StmtDecided : Bool → Engine → Bool → Progress → Progress → Stmt → Stmt → Type 0
StmtDecided true r w s s' x x' = StmtFired r w s s' x x'
StmtDecided false r w s s' x x' = (x' ≡ x) × (s' ≡ s)

abbrev pub step_by : Bool → NodeStep
step_by true = step.Reopened
step_by false = step.Rewritten

-- the constant for a value was put in an expression's place
pub record Puts (s s' : Progress) (e' : Expr) (v : Value) : Type 0 where
  pub fired : s'.is_dirty ≡ true
  pub known : s'.known ≡ s.known
  pub constant : e' ≡ constant_for v
  pub literal : literal_value e' ≡ Some v
