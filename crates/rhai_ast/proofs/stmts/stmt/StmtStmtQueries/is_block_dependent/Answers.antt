use Rattle.std.proofs.Common.{rules}
use Rattle.ast_types.specs.Reading.{shapes}
use Rattle.ast_types.specs.Positions.{places}
use Rattle.rhai_ast.proofs.stmts.stmt.StmtStmtQueries.is_block_dependent.Goals as goal

pub returns-clause-value : goal.returns-clause-value
returns-clause-value c = search (rules, shapes, places)
