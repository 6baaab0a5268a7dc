-- What each rule owes by its trees alone: the new one is lighter, and has at every node what the old one has there.
use Rattle.std.proofs.Common.{◌<◌, Bool}
use Rattle.theory_meaning.specs.Tree.{Expr, Stmt, Stmts}
use Rattle.theory_meaning.specs.Walk.{Node, Around, whole, throughout, over_expr, over_stmt, over_stmts}
use Rattle.theory_rewriting.specs.Context.{Context, ListKind}
use Rattle.theory_meaning.specs.Weight.{expr_weight, stmt_weight, weight}
use Rattle.theory_rewriting.proofs.rules.Lasting.{Lasting}

pub record ExprObligation (k : Context) (e e' : Expr) : Type 1 where
  pub lighter : expr_weight e' < expr_weight e
  pub keeps : (P : Around → Node → Type 0) (l : Bool) → Lasting P l → over_expr (throughout P) e (whole l) → over_expr (throughout P) e' (whole l)

pub record StmtObligation (k : Context) (w : Bool) (s s' : Stmt) : Type 1 where
  pub lighter : stmt_weight s' < stmt_weight s
  pub keeps : (P : Around → Node → Type 0) (l : Bool) → Lasting P l → over_stmt (throughout P) s (whole l) → over_stmt (throughout P) s' (whole l)

-- u: whether the value before the list is unit
pub record ListObligation (k : Context) (m : ListKind) (u : Bool) (ss ss' : Stmts) : Type 1 where
  pub lighter : weight ss' < weight ss
  pub keeps : (P : Around → Node → Type 0) (l : Bool) → Lasting P l → over_stmts (throughout P) ss (whole l) → over_stmts (throughout P) ss' (whole l)
