use Rattle.ast_types.proofs.Cases.{stmt_cases}
use Rattle.opt_stmts.proofs.OtherAssignments.{stmt_writes}
use Rattle.opt_stmts.proofs.assign.leaves_names.stmt_writes_nothing.Goals as goal

pub returns-in_default : goal.returns-in_default
returns-in_default c = stmt_writes (stmt_cases c.args.statement.now) c.in_default.not-Assignment c.in_default.not-FnCall
