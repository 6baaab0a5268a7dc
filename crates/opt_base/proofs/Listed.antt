-- What is claimed of each expression of a list, for changes of lists.
use Rattle.theory_meaning.specs.Engine.{Engine}
use Rattle.theory_meaning.specs.Tree.{Expr, Exprs, no_exprs, expr}
use Rattle.theory_rewriting.specs.Clear.{IsClearExpr, AreClearExprs}
use Rattle.theory_rewriting.specs.Known.{Known}
use Rattle.theory_rewriting.specs.Residue.{IsReducedExpr, AreReducedExprs}
use Rattle.theory_rewriting.specs.Steps.{AnswersNone, AnswerNone}
use Rattle.std.specs.Prelude.{List}

-- F holds of a list where E holds of each
pub record Listed (E : Expr → Type 0) (F : Exprs → Type 0) : Type 0 where
  pub none : F no_exprs
  pub split : (e : Expr) (es : Exprs) → F (expr e es) → E e × F es
  pub join : (e : Expr) (es : Exprs) → E e → F es → F (expr e es)

pub answers : Listed AnswersNone AnswerNone
answers = record { none = tt; split = λ e es h. h; join = λ e es p q. (p, q) }

pub reduced : (r : Engine) → Listed (IsReducedExpr r) (AreReducedExprs r)
reduced r = record { none = tt; split = λ e es h. h; join = λ e es p q. (p, q) }

pub clear : (ks : List Known) → Listed (IsClearExpr ks) (AreClearExprs ks)
clear ks = record { none = tt; split = λ e es h. h; join = λ e es p q. (p, q) }
