use Rattle.ast_types.proofs.Cases.{stmt_cases}
use Rattle.opt_lists.proofs.Others.{no_return_of_nothing}
use Rattle.opt_lists.proofs.questions.is_return_of_nothing.Goals as goal

pub returns-in_default : goal.returns-in_default
returns-in_default c = no_return_of_nothing (stmt_cases c.args.statement.now) c.in_default.not-Return
