use Rattle.ast_types.proofs.Cases.{expr_cases}
use Rattle.opt_base.proofs.Others.{no_call}
use Rattle.opt_base.proofs.captures.is_capturing_expr.Goals as goal

pub returns-in_default : goal.returns-in_default
returns-in_default c = no_call (expr_cases c.args.expr.now) c.in_default.not-FnCall
