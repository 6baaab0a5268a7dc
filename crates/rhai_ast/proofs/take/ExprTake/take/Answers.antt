use Rattle.std.proofs.Common.{rules}
use Rattle.ast_types.specs.Reading.{shapes}
use Rattle.rhai_ast.proofs.take.ExprTake.take.Goals as goal

pub returns-clause-left : goal.returns-clause-left
returns-clause-left c = search (rules, shapes)
