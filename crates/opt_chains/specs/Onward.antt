-- A chain by its first step: the argument of that step, and what is left of the chain behind it.
use Rattle.std.specs.Prelude.{◌≡◌, Bool, true, false, List, Option, Some, None}
use Rattle.theory_meaning.specs.Tree.{Expr, Dot, Index}
use Rattle.theory_meaning.specs.Engine.{Engine}
use Rattle.theory_rewriting.specs.Context.{knowing}
use Rattle.theory_rewriting.specs.Known.{Known}
use Rattle.theory_rewriting.specs.Rules.{ExprRule}
use Rattle.theory_rewriting.specs.Steps.{Place, MayBecome, KeepsExprParts}

-- of a node with this right side, that ends the chain (breaks) or not
abbrev pub argument : (breaks : Bool) → Expr → Expr
argument false (Dot m a r) = a
argument false (Index m a r) = a
argument breaks e = e

-- the rest of the chain over what the first step answers; that alone where nothing is left
abbrev pub onward : (breaks : Bool) → Expr → Expr → Expr
onward false (Dot m a r) part = Dot m part r
onward false (Index m a r) part = Index m part r
onward breaks e part = part

-- whether something is left
abbrev pub goes_on : (breaks : Bool) → Expr → Bool
goes_on false (Dot m a r) = true
goes_on false (Index m a r) = true
goes_on breaks e = false

-- the rest of a chain took a part as its base, or nothing is left, and the part is given back
abbrev pub GoesOn : (old new part : Expr) → (back : Option Expr) → Type 0
GoesOn old new part None = new ≡ onward false old part
GoesOn old new part (Some back) = (back ≡ part) × (part ≡ onward false old part)

-- a rule takes a node to another, that may stand there, and whose parts are as reduced
pub record Rewrites (r : Engine) (ks : List Known) (p : Place) (e e' : Expr) : Type 0 where
  pub rule : ExprRule (knowing r ks) e e'
  pub stays : MayBecome p e e'
  pub keeps : KeepsExprParts e e'
