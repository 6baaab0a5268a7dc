-- Trees in which no `if` tests a name that is known there as a constant, in all parts that a rule may put in a node's place.
use Rattle.std.specs.Prelude.{◌≡◌, List, [], ◌∷◌, Option, None}
use Rattle.rhai_base.specs.Value.{Text, Value}
use Rattle.theory_meaning.specs.Tree.{Expr, Variable, BlockExpr, And, Or, Coalesce, Exprs, no_exprs, expr, Stmt, If, Block, ExprStmt, Stmts, no_stmts, stmt}
use Rattle.theory_rewriting.specs.Context.{known_behind}
use Rattle.theory_rewriting.specs.Evals.{keeps_names}
use Rattle.theory_rewriting.specs.Known.{Known, known_at}
use Rattle.theory_rewriting.specs.Residue.{when}

abbrev pub known_value : List Known → Expr → Option Value
known_value ks (Variable ns x) = known_at ks ns x
known_value ks _ = None

abbrev mutual
  pub IsClearExpr : List Known → Expr → Type 0
  IsClearExpr ks (Variable ns x) = known_at ks ns x ≡ None
  IsClearExpr ks (BlockExpr ss) = AreClear ks ss
  IsClearExpr ks (And es) = AreClearExprs ks es
  IsClearExpr ks (Or es) = AreClearExprs ks es
  IsClearExpr ks (Coalesce es) = AreClearExprs ks es
  IsClearExpr ks _ = Unit {0}

  pub AreClearExprs : List Known → Exprs → Type 0
  AreClearExprs ks no_exprs = Unit {0}
  AreClearExprs ks (expr e es) = IsClearExpr ks e × AreClearExprs ks es

  pub IsClear : List Known → Stmt → Type 0
  IsClear ks (If e a b) = IsClearExpr ks e × (AreClear ks a × AreClear ks b)
  IsClear ks (Block ss) = AreClear ks ss
  IsClear ks (ExprStmt e) = IsClearExpr ks e
  IsClear ks _ = Unit {0}

  -- of statements behind a call of `eval` nothing is claimed
  pub AreClear : List Known → Stmts → Type 0
  AreClear ks no_stmts = Unit {0}
  AreClear ks (stmt s ss) = IsClear ks s × when (keeps_names s) (AreClear (known_behind s ks) ss)

-- the parts of an expression, whatever it is itself
abbrev pub HasClearParts : List Known → Expr → Type 0
HasClearParts ks (BlockExpr ss) = AreClear ks ss
HasClearParts ks (And es) = AreClearExprs ks es
HasClearParts ks (Or es) = AreClearExprs ks es
HasClearParts ks (Coalesce es) = AreClearExprs ks es
HasClearParts ks _ = Unit {0}
