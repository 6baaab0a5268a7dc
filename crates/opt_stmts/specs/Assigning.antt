-- Assignments by their declared parts, and what is taken out of one.
use Rattle.std.specs.Prelude.{◌≡◌, true, false, [], Option, Some, MatchOption}
use Rattle.ast_types.specs.declared.expr.BinaryExpr.{BinaryExpr}
use Rattle.ast_types.specs.declared.expr.Expr as declared_expr
use Rattle.ast_types.specs.declared.expr.FnCallExpr.{FnCallExpr}
use Rattle.base_tokens.specs.declared.op_assignment.OpAssignment.{OpAssignment}
use Rattle.rhai_base.specs.Builtin.{operator_of}
use Rattle.rhai_base.specs.Operators.{Operator}
use Rattle.rhai_base.specs.Value.{Text}
use Rattle.theory_meaning.specs.Engine.{Engine, overrides_any, assigning}
use Rattle.theory_meaning.specs.Tree.{OfOperator, Callee, Expr, Variable, FnCall, no_exprs, expr, Stmt, Assignment}
use Rattle.ast_types.specs.Reading.{callee_of, expr_of, exprs_of}
use Rattle.theory_rewriting.specs.SelfAssign.{has_op_assignment, leaves_names}
use Rattle.opt_stmts.specs.SettledAssignments.{assigns_itself}

abbrev pub call_of : FnCallExpr → Expr
call_of c = FnCall (callee_of c) (exprs_of c.args)

abbrev pub assignment_of : OpAssignment → BinaryExpr → Stmt
assignment_of o x = Assignment (operator_of o.op) (expr_of x.lhs) (expr_of x.rhs)

-- `x op e`, for which `op=` may stand at x
pub data Operates (r : Engine) : Expr → Expr → Option Operator → Expr → Type 0 where
  operates : {op : Operator} {f : Callee} {x : Text} {e : Expr} → f.token ≡ OfOperator op → has_op_assignment op ≡ true → leaves_names e ≡ true → overrides_any r.overrides (assigning op) ≡ false → Operates r (Variable [] x) (FnCall f (expr (Variable [] x) (expr e no_exprs))) (Some op) e

-- the `op=` and the value that were taken out of it, if it is one
abbrev pub Takes : Option (OpAssignment × declared_expr.Expr) → Engine → Expr → Expr → Expr → Type 0
Takes o r l e e' = MatchOption o ((assigns_itself r l e ≡ false) × (e' ≡ e)) (λ p. Operates r l e (operator_of p.0.op) (expr_of p.1))
