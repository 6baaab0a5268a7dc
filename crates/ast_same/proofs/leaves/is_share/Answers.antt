use Rattle.ast_types.specs.Reading.{shared_names}
use Rattle.ast_types.proofs.Cases.{stmt_cases}
use Rattle.ast_same.proofs.Others.{other_share}
use Rattle.ast_same.proofs.leaves.is_share.Goals as goal

pub returns-in_default : goal.returns-in_default
returns-in_default c = other_share (stmt_cases c.args.second.now) c.in_default.not-Share (shared_names c.args.names.now)
