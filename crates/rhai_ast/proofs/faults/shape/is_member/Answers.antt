use Rattle.ast_types.proofs.Cases.{expr_cases}
use Rattle.rhai_ast.proofs.OtherFaults.{no_member}
use Rattle.rhai_ast.proofs.faults.shape.is_member.Goals as goal

pub returns-in_default : goal.returns-in_default
returns-in_default c = no_member (expr_cases c.args.expr.now) c.in_default.not-Property c.in_default.not-MethodCall
