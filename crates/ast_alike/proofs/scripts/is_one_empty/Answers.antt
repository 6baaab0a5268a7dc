use Rattle.ast_alike.proofs.Captured.{several_empty}
use Rattle.ast_alike.proofs.scripts.is_one_empty.Goals as goal

pub returns-in_default-2 : goal.returns-in_default-2
returns-in_default-2 c = several_empty c.args.stmts.now c.in_default.len_at_least
