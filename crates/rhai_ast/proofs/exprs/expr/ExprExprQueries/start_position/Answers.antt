use Rattle.std.proofs.Common.{rules}
use Rattle.ast_types.specs.Reading.{shapes}
use Rattle.ast_types.specs.Positions.{places}
use Rattle.rhai_ast.proofs.exprs.expr.ExprExprQueries.start_position.Goals as goal

pub returns : goal.returns
returns c = search (rules, shapes, places)
