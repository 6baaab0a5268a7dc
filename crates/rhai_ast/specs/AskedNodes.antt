-- What may be asked of a node that is lent.
use Rattle.std.specs.Prelude.{Bool, true, false}
use Rattle.base_tokens.specs.declared.position.Position.{Position}
use Rattle.ast_types.specs.Positions.{position_of, stmt_position_of}
use Rattle.rhai_ast.specs.declared.walker.node.ASTNode.{ASTNode}
use Rattle.rhai_ast.specs.declared.walker.node.ASTNode.TheVariants as node

abbrev pub is_stmt_node : ASTNode → Bool
is_stmt_node (node.Stmt s) = true
is_stmt_node (node.Expr e) = false

abbrev pub is_expr_node : ASTNode → Bool
is_expr_node (node.Stmt s) = false
is_expr_node (node.Expr e) = true

abbrev pub place_of : ASTNode → Position
place_of (node.Stmt s) = stmt_position_of s.now
place_of (node.Expr e) = position_of e.now
