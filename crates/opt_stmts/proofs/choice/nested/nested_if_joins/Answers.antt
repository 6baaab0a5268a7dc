use Rattle.std.proofs.Common.{not, ◌&&◌, sym, ap, ◌∙◌}
use Rattle.ast_types.specs.declared.block.StmtBlock.{StmtBlock}
use Rattle.theory_meaning.specs.Tree.{And, If, no_stmts}
use Rattle.ast_types.specs.Reading.{expr_of, exprs_of, stmts_of}
use Rattle.opt_stmts.specs.SettledChoices.{is_bare_if_alone}
use Rattle.opt_stmts.proofs.Ends.{pushed}
use Rattle.opt_stmts.proofs.Nesting.{joins_made, joins_or_not}
use Rattle.opt_stmts.proofs.choice.nested.nested_if_joins.Goals as goal

pub returns-then-ends_false-clause-answer : goal.returns-then-ends_false-clause-answer
returns-then-ends_false-clause-answer c = ap (λ b. not b && is_bare_if_alone (stmts_of c.args.body.now.block)) (rw c.as_slice.ensures at c.if-ends_false.ensures)

pub returns-in_ok-push-in-Some-clause-answer : goal.returns-in_ok-push-in-Some-clause-answer
returns-in_ok-push-in-Some-clause-answer c = joins_or_not (exprs_of c.args.operands.now) (stmts_of c.args.body.now.block) _ (rw c.as_slice.ensures at c.if-ends_false.ensures) (sym (ap is_bare_if_alone c.in-Some.ensures))

pub returns-in_ok-push-in-Some-clause-rule : goal.returns-in_ok-push-in-Some-clause-rule
returns-in_ok-push-in-Some-clause-rule c =
    joins_made (exprs_of c.args.operands.now) (expr_of c.in-Some.inner) _ (sym (rw c.as_slice.ensures at c.if-ends_false.ensures)) c.in-Some.ensures (ap exprs_of c.in_ok-push-in-Some.ensures.ok ∙ pushed _ _)

pub returns-in-None-clause-answer : goal.returns-in-None-clause-answer
returns-in-None-clause-answer c = joins_or_not (exprs_of c.args.operands.now) (stmts_of c.args.body.now.block) _ (rw c.as_slice.ensures at c.if-ends_false.ensures) (sym c.in-None.ensures.0)

pub returns-in-None-clause-rule : goal.returns-in-None-clause-rule
returns-in-None-clause-rule c = ap (λ (b : StmtBlock). If (And (exprs_of c.args.operands.now)) (stmts_of b.block) no_stmts) c.in-None.ensures.1
