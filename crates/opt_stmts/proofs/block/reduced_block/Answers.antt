use Rattle.std.proofs.Common.{sym, ap}
use Rattle.theory_meaning.specs.Tree.{Block}
use Rattle.opt_base.proofs.Stepping.{stmt_rewrite_as}
use Rattle.std.proofs.Common.{refl}
use Rattle.opt_stmts.proofs.Shapes.{first-alone, none-there}
use Rattle.opt_stmts.proofs.block.reduced_block.Goals as goal

pub block_of_statement-requires : goal.block_of_statement-requires
block_of_statement-requires c =
    let there = rw c.statements_mut.ensures.value at c.in-Some.ensures.value in
    rw c.take.ensures.taken (first-alone c.args.block.now.block c.in-Some.statement.now (sym (rw c.statements.ensures at c.if-are_settled.ensures)) there.0 there.1).0

pub returns-in-Some-clause-made : goal.returns-in-Some-clause-made
returns-in-Some-clause-made c =
    let there = rw c.statements_mut.ensures.value at c.in-Some.ensures.value in
    λ o w. stmt_rewrite_as (ap Block (first-alone c.args.block.now.block c.in-Some.statement.now (sym (rw c.statements.ensures at c.if-are_settled.ensures)) there.0 there.1).1) refl ((rw c.take.ensures.taken at c.block_of_statement.ensures) o w)

pub returns-in-None-clause-made : goal.returns-in-None-clause-made
returns-in-None-clause-made c =
    λ o w. stmt_rewrite_as (ap Block (none-there c.args.block.now.block (rw c.statements_mut.ensures.value at c.in-None.ensures.value))) refl (c.block_empty.ensures o w)
