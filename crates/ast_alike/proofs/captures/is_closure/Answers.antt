use Rattle.std.proofs.Common.{ap, is_some}
use Rattle.ast_types.proofs.Cases.{stmt_cases}
use Rattle.ast_alike.proofs.Captured.{no_block_closure}
use Rattle.ast_alike.proofs.captures.is_closure.Goals as goal

pub returns-in_default : goal.returns-in_default
returns-in_default c = ap is_some (no_block_closure (stmt_cases c.args.stmt.now) c.in_default.not-Block)
