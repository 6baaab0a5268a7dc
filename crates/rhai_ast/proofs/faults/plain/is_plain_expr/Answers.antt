use Rattle.ast_types.proofs.Cases.{expr_cases}
use Rattle.rhai_ast.proofs.OtherFaults.{no_call}
use Rattle.rhai_ast.proofs.faults.plain.is_plain_expr.Goals as goal

pub returns-in_default : goal.returns-in_default
returns-in_default c = no_call (expr_cases c.args.expr.now) c.in_default.not-MethodCall c.in_default.not-FnCall
