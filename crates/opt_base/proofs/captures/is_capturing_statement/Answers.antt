use Rattle.ast_types.proofs.Cases.{stmt_cases}
use Rattle.opt_base.proofs.Others.{no_call_statement}
use Rattle.opt_base.proofs.captures.is_capturing_statement.Goals as goal

pub returns-in_default : goal.returns-in_default
returns-in_default c = no_call_statement (stmt_cases c.args.statement.now) c.in_default.not-FnCall
