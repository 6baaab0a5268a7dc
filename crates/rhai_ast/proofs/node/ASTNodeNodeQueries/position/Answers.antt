use Rattle.std.proofs.Common.{rules}
use Rattle.rhai_ast.proofs.node.ASTNodeNodeQueries.position.Goals as goal

pub returns-in-Stmt : goal.returns-in-Stmt
returns-in-Stmt c = search rules
