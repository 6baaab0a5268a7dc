use Rattle.std.proofs.Common.{rules}
use Rattle.ast_types.specs.Reading.{shapes}
use Rattle.rhai_ast.proofs.exprs.call.FnCallExprCallQueries.is_operator_call.Goals as goal

pub returns : goal.returns
returns c = search (rules, shapes)
