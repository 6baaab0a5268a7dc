use Rattle.ast_types.proofs.Cases.{expr_cases}
use Rattle.ast_nodes.proofs.OtherNodes.{no_pointer}
use Rattle.ast_nodes.proofs.literals.pointer_literal.Goals as goal

pub returns-in_default : goal.returns-in_default
returns-in_default c = no_pointer (expr_cases c.args.name.now) c.in_default.not-StringConstant
