use Rattle.ast_types.proofs.Cases.{stmt_cases}
use Rattle.ast_alike.proofs.ByName.{stmt_calls}
use Rattle.ast_alike.proofs.closures.stmt_calls_by_name.Goals as goal

pub returns-in_default : goal.returns-in_default
returns-in_default c = stmt_calls (stmt_cases c.args.statement.now) c.in_default.not-FnCall
