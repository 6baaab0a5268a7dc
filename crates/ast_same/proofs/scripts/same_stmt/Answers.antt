use Rattle.ast_types.specs.Reading.{stmt_of}
use Rattle.ast_same.proofs.Exact.{same_statements}
use Rattle.ast_same.proofs.scripts.same_stmt.Goals as goal

pub returns : goal.returns
returns c = same_statements c.alike_stmt.result (stmt_of c.args.first.now) (stmt_of c.args.second.now) c.alike_stmt.ensures
