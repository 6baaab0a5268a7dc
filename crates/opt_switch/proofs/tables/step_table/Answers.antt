use Rattle.std.proofs.Common.{refl}
use Rattle.ast_types.proofs.Cases.{stmt_cases}
use Rattle.opt_switch.proofs.Settled.{small_there}
use Rattle.opt_switch.proofs.tables.step_table.Goals as goal

pub returns-in_default : goal.returns-in_default
returns-in_default c = (refl, (refl, small_there (stmt_cases c.args.statement.now) c.in_default.not-Switch))
