use Rattle.std.proofs.Common.{sym, ap, ◌∙◌}
use Rattle.rhai_ast.specs.Children.{children}
use Rattle.rhai_ast.specs.Left.{all_meant}
use Rattle.rhai_ast.specs.Nodes.{node_of}
use Rattle.rhai_ast.specs.Standing.{DeclaredExpr, DeclaredStmt}
use Rattle.rhai_ast.proofs.BelowNodes.{below_meant}
use Rattle.rhai_ast.proofs.walker.children.Children.of.Goals as goal

pub returns-in-Stmt-clause-children : goal.returns-in-Stmt-clause-children
returns-in-Stmt-clause-children c = ap all_meant c.of_stmt.ensures ∙ sym (below_meant (DeclaredStmt c.in-Stmt.stmt.now)) ∙ ap (λ n. children (node_of n)) (sym c.in-Stmt.is)

pub returns-in-Expr-clause-children : goal.returns-in-Expr-clause-children
returns-in-Expr-clause-children c = ap all_meant c.of_expr.ensures ∙ sym (below_meant (DeclaredExpr c.in-Expr.expr.now)) ∙ ap (λ n. children (node_of n)) (sym c.in-Expr.is)
