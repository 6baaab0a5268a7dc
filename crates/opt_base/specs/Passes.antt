-- Rules at a node, several in one pass over its parts.
use Rattle.std.specs.Prelude.{◌≡◌, ◌<◌, Bool, true, false}
use Rattle.theory_meaning.specs.Engine.{Engine}
use Rattle.theory_meaning.specs.Tree.{Expr, Exprs}
use Rattle.theory_meaning.specs.Weight.{expr_weight}
use Rattle.theory_rewriting.specs.Context.{Context}
use Rattle.theory_rewriting.specs.Rewriting.{ExprTo}
use Rattle.theory_rewriting.specs.Steps.{Progress, here, Place, MayBecome, KeepsExprParts, ExprKept}

-- changes of a list, one after another
pub data InTurn (R : Exprs → Exprs → Type 0) : Exprs → Exprs → Type 0 where
  no_change : {es : Exprs} → InTurn R es es
  one_more : {es es1 es2 : Exprs} → InTurn R es es1 → R es1 es2 → InTurn R es es2

-- rules fired at a node, in every context and every place; its parts are as reduced as they were
pub record NodePass (e e' : Expr) : Type 0 where
  pub to : (k : Context) (d : Bool) → ExprTo k d true e e'
  pub stays : (p : Place) → MayBecome p e e'
  pub keeps : KeepsExprParts e e'

-- rules fired at a node, and set the flag
pub record ExprPass (r : Engine) (p : Place) (s s' : Progress) (e e' : Expr) : Type 0 where
  pub to : ExprTo (here r s) s.is_dirty s'.is_dirty e e'
  pub stays : MayBecome p e e'
  pub keeps : KeepsExprParts e e'
  pub lighter : expr_weight e' < expr_weight e
  pub known : s'.known ≡ s.known

-- at an expression: whether any fired
abbrev pub PassStep : Bool → Engine → Place → Progress → Progress → Expr → Expr → Type 0
PassStep true r p s s' e e' = ExprPass r p s s' e e'
PassStep false r p s s' e e' = ExprKept r p s s' e e'
