use Rattle.ast_types.proofs.Cases.{stmt_cases}
use Rattle.opt_stmts.proofs.OtherChoices.{no_bare_if}
use Rattle.opt_stmts.proofs.choice.nested.is_bare_if.Goals as goal

pub returns-in_default : goal.returns-in_default
returns-in_default c = no_bare_if (stmt_cases c.args.statement.now) c.in_default.not-If
