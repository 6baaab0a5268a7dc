use Rattle.ast_types.proofs.Cases.{stmt_cases}
use Rattle.opt_base.proofs.Others.{no_unit}
use Rattle.opt_base.proofs.surely_unit.is_surely_unit.Goals as goal

pub returns-in_default : goal.returns-in_default
returns-in_default c =
    let no = c.in_default in
    no_unit (stmt_cases c.args.statement.now) no.not-Noop no.not-While no.not-Do no.not-For no.not-Var no.not-Assignment no.not-TryCatch
