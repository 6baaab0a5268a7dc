use Rattle.std.proofs.Common.{◌≡◌, true, false, sym, ap, ◌∙◌}
use Rattle.ast_types.specs.declared.block.StmtBlock.{StmtBlock}
use Rattle.theory_meaning.specs.Tree.{Block}
use Rattle.ast_types.specs.Reading.{stmt_of, stmts_of, stmt_of-Block}
use Rattle.ast_types.proofs.Cases.{stmt_cases}
use Rattle.opt_base.proofs.Stepping.{stmt_rewrite_as}
use Rattle.opt_stmts.proofs.FiredStatements.{fires_by}
use Rattle.opt_stmts.proofs.OtherStatements.{no_block}
use Rattle.opt_stmts.proofs.block.step_block.Goals as goal

pub returns-in-Some-clause-step : goal.returns-in-Some-clause-step
returns-in-Some-clause-step c =
    λ r w. fires_by c.put_made.ensures.dirty c.put_made.ensures.known
    (stmt_rewrite_as (ap stmt_of c.in-Block.is ∙ stmt_of-Block _ ∙ ap (λ (b : StmtBlock). Block (stmts_of b.block)) (sym (c.get_mut.ensures.value ∙ c.in-Block.block-is))) (ap stmt_of c.put_made.ensures.made) ((rw c.in-Some.is at c.reduced_block.ensures.made) false w))

pub returns-in_default : goal.returns-in_default
returns-in_default c = absurd (let z : false ≡ true = no_block (stmt_cases c.args.statement.now) c.in_default.not-Block ∙ c.requires in cc)
