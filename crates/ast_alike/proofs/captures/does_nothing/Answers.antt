use Rattle.ast_types.proofs.Cases.{stmt_cases}
use Rattle.ast_alike.proofs.Captured.{no_expression_does}
use Rattle.ast_alike.proofs.captures.does_nothing.Goals as goal

pub returns-in_default : goal.returns-in_default
returns-in_default c = no_expression_does (stmt_cases c.args.stmt.now) c.in_default.not-Expr
