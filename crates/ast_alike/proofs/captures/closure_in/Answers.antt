use Rattle.ast_types.proofs.Cases.{stmt_cases}
use Rattle.ast_alike.proofs.Captured.{no_block_closure}
use Rattle.ast_alike.proofs.captures.closure_in.Goals as goal

pub returns : goal.returns
returns c = no_block_closure (stmt_cases c.args.stmt) c.in_default.not-Block
