-- The record that an optimiser uses, what is left as it is, what a statement declares, and what came of it where it
-- was gone over once.
use Rattle.std.specs.Prelude.{Bool, true, false, Option, None}
use Rattle.rhai_base.specs.Value.{Value}
use Rattle.theory_meaning.specs.Constants.{constant_value}
use Rattle.theory_meaning.specs.Engine.{Engine}
use Rattle.theory_meaning.specs.Tree.{Expr, Stmt}
use Rattle.base_engine.specs.EngineInfo.{engine_of}
use Rattle.theory_rewriting.specs.Steps.{ExprRun, Place, Progress, StmtFired, StmtRun}
use Rattle.opt_reducer.specs.declared.cycle.Optimizer.{Optimizer}

abbrev pub record_of : Optimizer → Engine
record_of o = engine_of o.info.now

-- it is reduced as it is, at each place and whatever is known
abbrev pub StaysAnywhere : Expr → Type 0
StaysAnywhere e = (r : Engine) (p : Place) (s : Progress) → ExprRun r p s s e e

-- the value of a declared name, where it is a constant
abbrev pub declared_value : Bool → Expr → Option Value
declared_value true e = constant_value e
declared_value false e = None

-- it got lighter and is to be gone over again, or it is reduced
abbrev pub StmtOnce : Bool → Engine → Bool → Progress → Progress → Stmt → Stmt → Type 0
StmtOnce true r w s s' x x' = StmtFired r w s s' x x'
StmtOnce false r w s s' x x' = StmtRun r w s s' x x'
