use Rattle.ast_types.proofs.Cases.{expr_cases}
use Rattle.opt_stmts.proofs.OtherAssignments.{expr_writes}
use Rattle.opt_stmts.proofs.assign.leaves_names.expr_writes_nothing.Goals as goal

pub returns-in_default : goal.returns-in_default
returns-in_default c = expr_writes (expr_cases c.args.expr.now) c.in_default.not-MethodCall c.in_default.not-FnCall
