use Rattle.ast_types.proofs.Cases.{expr_cases}
use Rattle.ast_nodes.proofs.OtherNodes.{no_end}
use Rattle.ast_nodes.proofs.literals.range_end.Goals as goal

pub returns-in_default : goal.returns-in_default
returns-in_default c = no_end (expr_cases c.args.end.now) c.in_default.not-IntegerConstant c.in_default.not-Unit
