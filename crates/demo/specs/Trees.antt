-- Short forms of trees.
use Rattle.std.specs.Prelude.{ℕ, Bool, List, false, None, pos}
use Rattle.rhai_base.specs.Value.{Text}
use Rattle.rhai_base.specs.Operators.{Operator, symbol}
pub use Rattle.ast_make.specs.Trees.{called, variable, operation, element}
use Rattle.theory_meaning.specs.Tree.{NoToken, OfOperator, ChainFlags, Expr, IntegerConstant, ArrayOf, no_exprs, expr, exprs, Stmt, Var, Assignment, FnCallStmt, ExprStmt, Stmts, no_stmts, stmt}

-- ---- expressions

abbrev pub int : ℕ → Expr
int n = IntegerConstant (pos n)

abbrev pub array : List Expr → Expr
array es = ArrayOf (exprs es)

abbrev pub over : Operator → Expr → Expr → Expr
over op lhs rhs = operation (symbol op) (OfOperator op) lhs rhs

-- a link of a chain
abbrev pub going_on : ChainFlags
going_on = record { negated = false; breaks = false; exported = false }

-- ---- statements

abbrev pub alone : Stmt → Stmts
alone s = stmt s no_stmts

abbrev pub evaluates : Expr → Stmts
evaluates e = alone (ExprStmt e)

abbrev pub declares : Bool → Text → Expr → Stmt
declares constant name e = Var constant false name e

abbrev pub assigns : Text → Expr → Stmt
assigns name e = Assignment None (variable name) e

-- a call with one argument
abbrev pub calls : Text → Expr → Stmt
calls name e = FnCallStmt (called name NoToken) (expr e no_exprs)
