use Rattle.std.proofs.Common.{refl, ◌∙◌}
use Rattle.ast_types.specs.Reading.{stmts_of, stmt_of-Block, stmt_of-Noop}
use Rattle.theory_rewriting.specs.Rules.{statement_of_braces}
use Rattle.theory_rewriting.proofs.Keeping.{keeps_braces}
use Rattle.opt_base.proofs.Stepping.{stmt_rewrite_as}
use Rattle.opt_stmts.proofs.Choosing.{block_or_noop-none, block_or_noop-some}
use Rattle.opt_stmts.proofs.expression.statement_of_braces.Goals as goal

pub returns-then-is_empty : goal.returns-then-is_empty
returns-then-is_empty c = λ o w. stmt_rewrite_as refl (stmt_of-Noop _ ∙ block_or_noop-none (stmts_of c.args.block.block) (rw c.get.ensures at c.if-is_empty.ensures)) (record { rule = λ k. statement_of_braces; keeps = λ h. keeps_braces _ })

pub returns : goal.returns
returns c = λ o w. stmt_rewrite_as refl (stmt_of-Block _ ∙ block_or_noop-some (stmts_of c.args.block.block) (rw c.get.ensures at c.if-is_empty.ensures)) (record { rule = λ k. statement_of_braces; keeps = λ h. keeps_braces _ })
