use Rattle.ast_types.proofs.Cases.{stmt_cases}
use Rattle.ast_same.proofs.Others.{other_noop}
use Rattle.ast_same.proofs.leaves.is_noop.Goals as goal

pub returns-in_default : goal.returns-in_default
returns-in_default c = other_noop (stmt_cases c.args.second.now) c.in_default.not-Noop
