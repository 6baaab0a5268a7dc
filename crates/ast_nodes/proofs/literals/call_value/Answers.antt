use Rattle.ast_types.proofs.Cases.{expr_cases}
use Rattle.ast_nodes.proofs.OtherNodes.{no_call}
use Rattle.ast_nodes.proofs.literals.call_value.Goals as goal

pub returns-in_default : goal.returns-in_default
returns-in_default c = no_call (expr_cases c.args.expr.now) c.in_default.not-FnCall
