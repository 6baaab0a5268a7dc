use Rattle.ast_types.proofs.Cases.{stmt_cases}
use Rattle.rhai_ast.proofs.OtherStmts.{needs_semicolon}
use Rattle.rhai_ast.proofs.stmts.stmt.StmtStmtQueries.is_self_terminated.Goals as goal

pub returns-in_default : goal.returns-in_default
returns-in_default c =
    needs_semicolon (stmt_cases c.args.self.now) c.in_default.not-If c.in_default.not-Switch c.in_default.not-While c.in_default.not-For c.in_default.not-Block c.in_default.not-TryCatch
