use Rattle.ast_types.proofs.Cases.{stmt_cases}
use Rattle.opt_base.proofs.Others.{no_break}
use Rattle.opt_base.proofs.surely_unit.is_no_carrying_break.Goals as goal

pub returns-in_default : goal.returns-in_default
returns-in_default c = no_break (stmt_cases c.args.statement.now) c.in_default.not-BreakLoop
