use Rattle.theory_rewriting.proofs.Firing.{expr_start, expr_kept}
use Rattle.opt_base.proofs.Passing.{expr_passed, expr_pass_falls}
use Rattle.opt_rules.proofs.nodes.reduce_expr.Goals as goal

pub loop-init : goal.loop-init
loop-init c = expr_start

pub returns-then-not-branch : goal.returns-then-not-branch
returns-then-not-branch c = expr_kept c.loop.invariant (rw c.if-not-branch.true at c.in_ok-step_expr.ensures)

pub loop-smaller : goal.loop-smaller
loop-smaller c = let f = rw c.if-not-branch.false at c.in_ok-step_expr.ensures in expr_pass_falls f

pub loop-preserved : goal.loop-preserved
loop-preserved c = let f = rw c.if-not-branch.false at c.in_ok-step_expr.ensures in expr_passed c.loop.invariant f
