-- A step by one rule is a pass of one, and what holds in every context holds here.
use Rattle.std.proofs.Common.{Bool, true, false}
use Rattle.std.specs.Prelude.{Result, IfOk}
use Rattle.std.proofs.lemmas.Result.{IfOk-weaker}
use Rattle.base_tokens.specs.declared.error.OutOfMemory.{OutOfMemory}
use Rattle.theory_meaning.specs.Engine.{Engine}
use Rattle.theory_meaning.specs.Tree.{Expr, Stmt}
use Rattle.theory_rewriting.specs.Steps.{Progress, Place}
use Rattle.opt_base.specs.declared.step.NodeStep.{NodeStep}
use Rattle.opt_base.specs.NodeSteps.{ExprStep, StmtDecided, StmtStep}
use Rattle.opt_base.specs.Passes.{PassStep}
use Rattle.opt_base.proofs.Passing.{step_passes}
use Rattle.opt_switch.specs.Deciding.{Decided}

pub step_here : (r : Engine) (p : Place) (s s' : Progress) (e e' : Expr) (o : Result Bool OutOfMemory) → IfOk o (λ fired. ExprStep fired r p s s' e e') → IfOk o (λ fired. PassStep fired r p s s' e e')
step_here r p s s' e e' o h = IfOk-weaker o (λ fired. ExprStep fired r p s s' e e') (λ fired. PassStep fired r p s s' e e') (λ fired q. step_passes fired r p s s' e e' q) h

-- whatever the record is
pub step_under : (r : Engine) (p : Place) (s s' : Progress) (e e' : Expr) (o : Result Bool OutOfMemory) → IfOk o (λ fired. (r : Engine) → ExprStep fired r p s s' e e') → IfOk o (λ fired. PassStep fired r p s s' e e')
step_under r p s s' e e' o h = IfOk-weaker o (λ fired. (r : Engine) → ExprStep fired r p s s' e e') (λ fired. PassStep fired r p s s' e e') (λ fired q. step_passes fired r p s s' e e' (q r)) h

-- wherever it stands
pub step_at : (r : Engine) (p : Place) (s s' : Progress) (e e' : Expr) (o : Result Bool OutOfMemory) → IfOk o (λ fired. (p : Place) → ExprStep fired r p s s' e e') → IfOk o (λ fired. PassStep fired r p s s' e e')
step_at r p s s' e e' o h = IfOk-weaker o (λ fired. (p : Place) → ExprStep fired r p s s' e e') (λ fired. PassStep fired r p s s' e e') (λ fired q. step_passes fired r p s s' e e' (q p)) h

pub step_anywhere : (r : Engine) (p : Place) (s s' : Progress) (e e' : Expr) (o : Result Bool OutOfMemory) → IfOk o (λ fired. (r : Engine) (p : Place) → ExprStep fired r p s s' e e') → IfOk o (λ fired. PassStep fired r p s s' e e')
step_anywhere r p s s' e e' o h = IfOk-weaker o (λ fired. (r : Engine) (p : Place) → ExprStep fired r p s s' e e') (λ fired. PassStep fired r p s s' e e') (λ fired q. step_passes fired r p s s' e e' (q r p)) h

pub pass_anywhere : (r : Engine) (p : Place) (s s' : Progress) (e e' : Expr) (o : Result Bool OutOfMemory) → IfOk o (λ fired. (r : Engine) (p : Place) → PassStep fired r p s s' e e') → IfOk o (λ fired. PassStep fired r p s s' e e')
pass_anywhere r p s s' e e' o h = IfOk-weaker o (λ fired. (r : Engine) (p : Place) → PassStep fired r p s s' e e') (λ fired. PassStep fired r p s s' e e') (λ fired q. q r p) h

-- statements
pub stmt_under : (r : Engine) (w : Bool) (s s' : Progress) (x x' : Stmt) (o : Result NodeStep OutOfMemory) → IfOk o (λ step. (r : Engine) → StmtStep step r w s s' x x') → IfOk o (λ step. StmtStep step r w s s' x x')
stmt_under r w s s' x x' o h = IfOk-weaker o (λ step. (r : Engine) → StmtStep step r w s s' x x') (λ step. StmtStep step r w s s' x x') (λ step q. q r) h

pub stmt_wanted : (r : Engine) (w : Bool) (s s' : Progress) (x x' : Stmt) (o : Result NodeStep OutOfMemory) → IfOk o (λ step. (w : Bool) → StmtStep step r w s s' x x') → IfOk o (λ step. StmtStep step r w s s' x x')
stmt_wanted r w s s' x x' o h = IfOk-weaker o (λ step. (w : Bool) → StmtStep step r w s s' x x') (λ step. StmtStep step r w s s' x x') (λ step q. q w) h

pub stmt_anywhere : (r : Engine) (w : Bool) (s s' : Progress) (x x' : Stmt) (o : Result NodeStep OutOfMemory) → IfOk o (λ step. (r : Engine) (w : Bool) → StmtStep step r w s s' x x') → IfOk o (λ step. StmtStep step r w s s' x x')
stmt_anywhere r w s s' x x' o h = IfOk-weaker o (λ step. (r : Engine) (w : Bool) → StmtStep step r w s s' x x') (λ step. StmtStep step r w s s' x x') (λ step q. q r w) h

-- a `switch` before its arms are gone over
pub switch_decided : (w : Bool) (s s' : Progress) (x x' : Stmt) (o : Result Bool OutOfMemory) → IfOk o (λ fired. (r : Engine) (w : Bool) → Decided fired r w s s' x x') → IfOk o (λ fired. (r : Engine) → StmtDecided fired r w s s' x x')
switch_decided w s s' x x' o h = IfOk-weaker o (λ fired. (r : Engine) (w : Bool) → Decided fired r w s s' x x') (λ fired. (r : Engine) → StmtDecided fired r w s s' x x') (λ fired q r. by fired r (q r w)) h where
  by : (fired : Bool) (r : Engine) → Decided fired r w s s' x x' → StmtDecided fired r w s s' x x'
  by true r q = q
  by false r q = (q.0, q.1.0)
