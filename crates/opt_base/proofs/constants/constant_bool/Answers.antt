use Rattle.ast_types.proofs.Cases.{expr_cases}
use Rattle.opt_base.proofs.Undecided.{undecided}
use Rattle.opt_base.proofs.constants.constant_bool.Goals as goal

pub returns-in_default : goal.returns-in_default
returns-in_default c = undecided (expr_cases c.args.expr.now) c.in_default.not-BoolConstant c.in_default.not-DynamicConstant
