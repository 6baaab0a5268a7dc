use Rattle.ast_types.proofs.Cases.{expr_cases}
use Rattle.opt_exprs.proofs.Pointers.{no_pointer}
use Rattle.opt_exprs.proofs.calls.calls.constant_pointer.Goals as goal

pub returns-in_default : goal.returns-in_default
returns-in_default c = no_pointer (expr_cases c.args.expr.now) c.in_default.not-DynamicConstant
