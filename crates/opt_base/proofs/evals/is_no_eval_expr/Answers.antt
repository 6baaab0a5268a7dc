use Rattle.ast_types.proofs.Cases.{expr_cases}
use Rattle.opt_base.proofs.Others.{no_eval_call}
use Rattle.opt_base.proofs.evals.is_no_eval_expr.Goals as goal

pub returns-in_default : goal.returns-in_default
returns-in_default c = no_eval_call (expr_cases c.args.expr.now) c.in_default.not-FnCall
