use Rattle.std.proofs.Common.{rules}
use Rattle.ast_types.specs.Reading.{shapes}
use Rattle.ast_types.specs.Positions.{places}
use Rattle.rhai_ast.proofs.exprs.expr.ExprExprQueries.options.Goals as goal

pub returns-in-Dot : goal.returns-in-Dot
returns-in-Dot c = search (rules, shapes, places)
