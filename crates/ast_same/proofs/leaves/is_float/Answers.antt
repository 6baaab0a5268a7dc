use Rattle.ast_types.proofs.Cases.{expr_cases}
use Rattle.ast_same.proofs.Others.{other_float}
use Rattle.ast_same.proofs.leaves.is_float.Goals as goal

pub returns-in_default : goal.returns-in_default
returns-in_default c = other_float (expr_cases c.args.second.now) c.in_default.not-FloatConstant c.args.value.bits
