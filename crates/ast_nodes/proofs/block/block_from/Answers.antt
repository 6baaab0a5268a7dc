use Rattle.std.proofs.Common.{◌≡◌, IfOk, subst}
use Rattle.ast_types.specs.declared.block.StmtBlock.{StmtBlock}
use Rattle.ast_nodes.proofs.Blocks.{block_of_other}
use Rattle.ast_nodes.proofs.block.block_from.Goals as goal

pub returns-in_default : goal.returns-in_default
returns-in_default c =
    let IsMade : StmtBlock → Type 0 = λ m. IfOk c.block_around.result (λ b. b ≡ m) in
    subst IsMade (block_of_other c.args.stmt c.in_default.not-Noop c.in_default.not-Block) c.block_around.ensures
