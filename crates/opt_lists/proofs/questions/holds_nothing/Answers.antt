use Rattle.ast_types.proofs.Cases.{stmt_cases}
use Rattle.opt_lists.proofs.Others.{no_lists}
use Rattle.opt_lists.proofs.questions.holds_nothing.Goals as goal

pub returns-in_default : goal.returns-in_default
returns-in_default c =
    let no = c.in_default in
    no_lists (stmt_cases c.args.statement.now) no.not-If no.not-TryCatch no.not-Do no.not-For no.not-Block
