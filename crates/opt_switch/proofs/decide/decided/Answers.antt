use Rattle.std.proofs.Common.{refl, sym}
use Rattle.ast_types.proofs.Cases.{stmt_cases}
use Rattle.opt_switch.proofs.ArmPlaces.{no_choice}
use Rattle.opt_switch.proofs.decide.decided.Goals as goal

pub returns-in_default : goal.returns-in_default
returns-in_default c = (refl, sym (no_choice (stmt_cases c.args.statement.now) c.in_default.not-Switch))
