use Rattle.ast_types.proofs.Cases.{expr_cases}
use Rattle.ast_alike.proofs.ByName.{expr_calls}
use Rattle.ast_alike.proofs.closures.expr_calls_by_name.Goals as goal

pub returns-in_default : goal.returns-in_default
returns-in_default c = expr_calls (expr_cases c.args.expr.now) c.in_default.not-MethodCall c.in_default.not-FnCall
