use Rattle.ast_types.proofs.Cases.{stmt_cases}
use Rattle.rhai_ast.proofs.OtherStmts.{no_value}
use Rattle.rhai_ast.proofs.stmts.stmt.StmtStmtQueries.returns_value.Goals as goal

pub returns-in_default : goal.returns-in_default
returns-in_default c =
    no_value (stmt_cases c.args.self.now) c.in_default.not-If c.in_default.not-Switch c.in_default.not-FnCall c.in_default.not-Block c.in_default.not-Expr
