use Rattle.ast_types.proofs.Cases.{expr_cases}
use Rattle.ast_same.proofs.Others.{other_string}
use Rattle.ast_same.proofs.leaves.is_string.Goals as goal

pub returns-in_default : goal.returns-in_default
returns-in_default c = other_string (expr_cases c.args.second.now) c.in_default.not-StringConstant c.args.value.now
