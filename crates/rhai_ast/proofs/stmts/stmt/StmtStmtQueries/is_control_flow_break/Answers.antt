use Rattle.ast_types.proofs.Cases.{stmt_cases}
use Rattle.rhai_ast.proofs.OtherStmts.{no_break}
use Rattle.rhai_ast.proofs.stmts.stmt.StmtStmtQueries.is_control_flow_break.Goals as goal

pub returns-in_default : goal.returns-in_default
returns-in_default c = no_break (stmt_cases c.args.self.now) c.in_default.not-BreakLoop c.in_default.not-Return
