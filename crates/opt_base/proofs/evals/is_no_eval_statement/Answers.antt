use Rattle.ast_types.proofs.Cases.{stmt_cases}
use Rattle.opt_base.proofs.Others.{no_eval_statement}
use Rattle.opt_base.proofs.evals.is_no_eval_statement.Goals as goal

pub returns-in_default : goal.returns-in_default
returns-in_default c = no_eval_statement (stmt_cases c.args.statement.now) c.in_default.not-FnCall
