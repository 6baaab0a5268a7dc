use Rattle.theory_rewriting.proofs.Firing.{stmt_start, stmt_fired, stmt_kept, stmt_fired_falls, stmt_reopened}
use Rattle.opt_rules.proofs.nodes.reduce_stmt.Goals as goal

pub loop-init : goal.loop-init
loop-init c = stmt_start

pub returns-in-Kept : goal.returns-in-Kept
returns-in-Kept c = stmt_kept c.loop.invariant (rw c.in-Kept.is at c.in_ok-step_stmt.ensures)

pub loop-smaller : goal.loop-smaller
loop-smaller c = let f = rw c.in-Rewritten.is at c.in_ok-step_stmt.ensures in stmt_fired_falls f.0

pub loop-preserved : goal.loop-preserved
loop-preserved c = let f = rw c.in-Rewritten.is at c.in_ok-step_stmt.ensures in stmt_fired c.loop.invariant f.0 f.1

pub returns-in-Reopened : goal.returns-in-Reopened
returns-in-Reopened c = stmt_reopened c.loop.invariant (rw c.in-Reopened.is at c.in_ok-step_stmt.ensures)
