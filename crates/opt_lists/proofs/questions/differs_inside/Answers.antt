use Rattle.ast_types.proofs.Cases.{stmt_cases}
use Rattle.opt_lists.proofs.Others.{no_difference}
use Rattle.opt_lists.proofs.questions.differs_inside.Goals as goal

pub returns-in_default : goal.returns-in_default
returns-in_default c =
    let no = c.in_default in
    no_difference (stmt_cases c.args.statement.now) no.not-Var no.not-Import no.not-Export no.not-Expr
