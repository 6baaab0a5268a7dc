use Rattle.std.proofs.Common.{rules}
use Rattle.rhai_ast.proofs.node.ASTNodeNodeQueries.is_expr.Goals as goal

pub returns-in-Expr : goal.returns-in-Expr
returns-in-Expr c = search rules
