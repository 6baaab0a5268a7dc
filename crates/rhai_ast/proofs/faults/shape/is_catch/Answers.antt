use Rattle.ast_types.proofs.Cases.{expr_cases}
use Rattle.rhai_ast.proofs.OtherFaults.{no_catch}
use Rattle.rhai_ast.proofs.faults.shape.is_catch.Goals as goal

pub returns-in_default : goal.returns-in_default
returns-in_default c = no_catch (expr_cases c.args.expr.now) c.in_default.not-Unit c.in_default.not-Variable
