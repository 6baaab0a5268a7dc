use Rattle.rhai_optimizer.proofs.Passing.{no_pass_yet, pass_counted, pass_falls, passes_done, passes_none, none_read, not_none}
use Rattle.rhai_optimizer.proofs.passes.make_passes.Goals as goal

pub loop-has_changed-init : goal.loop-has_changed-init
loop-has_changed-init c = no_pass_yet

pub loop-has_changed-preserved : goal.loop-has_changed-preserved
loop-has_changed-preserved c = pass_counted c.saturating_add-number.ensures c.loop-has_changed.invariant (rw c.if-not-has_changed.false at c.in_ok-has_changed.ensures)

pub loop-has_changed-smaller : goal.loop-has_changed-smaller
loop-has_changed-smaller c = pass_falls (rw c.if-not-has_changed.false at c.in_ok-has_changed.ensures)

pub returns-then-is_empty : goal.returns-then-is_empty
returns-then-is_empty c = passes_none _ (none_read _ _ c.is_empty.ensures c.if-is_empty.true)

pub returns-then-not-has_changed : goal.returns-then-not-has_changed
returns-then-not-has_changed c = passes_done (not_none _ _ c.is_empty.ensures c.if-is_empty.false) c.saturating_add-number.ensures c.loop-has_changed.invariant (rw c.if-not-has_changed.true at c.in_ok-has_changed.ensures)
