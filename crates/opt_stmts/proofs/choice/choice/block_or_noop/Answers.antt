use Rattle.std.proofs.Common.{ap, ◌∙◌}
use Rattle.std.proofs.lemmas.Result.{IfOk-weaker}
use Rattle.ast_types.specs.Reading.{stmt_of, stmt_of-Block, stmt_of-Noop}
use Rattle.opt_stmts.proofs.Choosing.{block_or_noop-none, block_or_noop-some}
use Rattle.opt_stmts.proofs.choice.choice.block_or_noop.Goals as goal

pub returns-then-is_empty : goal.returns-then-is_empty
returns-then-is_empty c = stmt_of-Noop _ ∙ block_or_noop-none _ c.if-is_empty.ensures

pub returns : goal.returns
returns c =
    IfOk-weaker c.block_statement.result _ _ (λ s e. ap stmt_of e ∙ stmt_of-Block _ ∙ block_or_noop-some _ c.if-is_empty.ensures) c.block_statement.ensures
