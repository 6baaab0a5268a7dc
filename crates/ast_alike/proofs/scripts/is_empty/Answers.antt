use Rattle.ast_alike.proofs.Captured.{some_empty}
use Rattle.ast_alike.proofs.scripts.is_empty.Goals as goal

pub returns-in_default : goal.returns-in_default
returns-in_default c = some_empty c.args.stmts.now c.in_default.len_at_least
