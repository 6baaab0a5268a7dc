use Rattle.ast_types.proofs.Cases.{expr_cases}
use Rattle.ast_same.proofs.Others.{other_unit}
use Rattle.ast_same.proofs.leaves.is_unit.Goals as goal

pub returns-in_default : goal.returns-in_default
returns-in_default c = other_unit (expr_cases c.args.second.now) c.in_default.not-Unit
