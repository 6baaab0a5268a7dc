use Rattle.ast_types.proofs.Cases.{stmt_cases}
use Rattle.ast_alike.proofs.Captured.{no_block_empty}
use Rattle.ast_alike.proofs.scripts.is_empty_block.Goals as goal

pub returns-in_default : goal.returns-in_default
returns-in_default c = no_block_empty (stmt_cases c.args.stmt.now) c.in_default.not-Block
