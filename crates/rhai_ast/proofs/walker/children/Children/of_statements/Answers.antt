use Rattle.std.proofs.Common.{sym}
use Rattle.rhai_ast.proofs.BelowNodes.{statements_meant}
use Rattle.rhai_ast.proofs.walker.children.Children.of_statements.Goals as goal

pub returns-clause-children : goal.returns-clause-children
returns-clause-children c = sym (statements_meant c.args.statements.now)
