use Rattle.std.proofs.Common.{rules}
use Rattle.ast_types.specs.Reading.{shapes}
use Rattle.ast_types.specs.Positions.{places}
use Rattle.rhai_ast.proofs.stmts.stmt.StmtStmtQueries.options.Goals as goal

pub returns-in-Do : goal.returns-in-Do
returns-in-Do c = search (rules, shapes, places)
