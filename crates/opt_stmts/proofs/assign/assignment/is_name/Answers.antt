use Rattle.ast_types.proofs.Cases.{expr_cases}
use Rattle.opt_stmts.proofs.OtherAssignments.{no_name}
use Rattle.opt_stmts.proofs.assign.assignment.is_name.Goals as goal

pub returns-in_default : goal.returns-in_default
returns-in_default c = no_name _ (expr_cases c.args.expr.now) c.in_default.not-Variable
