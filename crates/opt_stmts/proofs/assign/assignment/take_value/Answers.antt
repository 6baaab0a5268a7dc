use Rattle.std.proofs.Common.{refl}
use Rattle.base_engine.specs.EngineInfo.{engine_of}
use Rattle.ast_types.proofs.Cases.{expr_cases}
use Rattle.opt_stmts.proofs.OtherAssignments.{no_operation}
use Rattle.opt_stmts.proofs.assign.assignment.take_value.Goals as goal

pub returns-in_default : goal.returns-in_default
returns-in_default c = (no_operation (engine_of c.args.info.now) _ (expr_cases c.args.expr.now) c.in_default.not-FnCall, refl)
