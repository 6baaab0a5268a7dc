use Rattle.ast_types.proofs.Cases.{stmt_cases}
use Rattle.rhai_ast.proofs.OtherStmts.{no_noop}
use Rattle.rhai_ast.proofs.stmts.stmt.StmtStmtQueries.is_noop.Goals as goal

pub returns-in_default : goal.returns-in_default
returns-in_default c = no_noop (stmt_cases c.args.self.now) c.in_default.not-Noop
