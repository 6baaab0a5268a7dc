-- Whether a node may write a name.
use Rattle.std.specs.Prelude.{Bool}
use Rattle.theory_meaning.specs.Tree.{Expr, Stmt}
use Rattle.theory_meaning.specs.Walk.{OfExpr, OfStmt}
use Rattle.theory_rewriting.specs.SelfAssign.{writes_nothing}

abbrev pub expr_writes_nothing : Expr → Bool
expr_writes_nothing e = writes_nothing (OfExpr e)

abbrev pub stmt_writes_nothing : Stmt → Bool
stmt_writes_nothing s = writes_nothing (OfStmt s)
