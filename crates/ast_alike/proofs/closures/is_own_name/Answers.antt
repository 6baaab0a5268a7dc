use Rattle.ast_types.proofs.Cases.{expr_cases}
use Rattle.ast_alike.proofs.ByName.{no_name}
use Rattle.ast_alike.proofs.closures.is_own_name.Goals as goal

pub returns-in_default : goal.returns-in_default
returns-in_default c = no_name (expr_cases c.args.arg.now) c.in_default.not-StringConstant
