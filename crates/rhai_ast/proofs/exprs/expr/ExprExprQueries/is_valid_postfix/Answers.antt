use Rattle.std.proofs.Common.{rules}
use Rattle.ast_types.specs.Reading.{shapes}
use Rattle.ast_types.specs.Positions.{places}
use Rattle.rhai_ast.proofs.exprs.expr.ExprExprQueries.is_valid_postfix.Goals as goal

pub returns-else-goes_into : goal.returns-else-goes_into
returns-else-goes_into c = search (rules, shapes, places)
