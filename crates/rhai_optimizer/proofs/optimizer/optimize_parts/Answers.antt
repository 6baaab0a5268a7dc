use Rattle.std.proofs.Common.{inl, inr, sym, ◌∙◌}
use Rattle.rhai_optimizer.proofs.Whole.{nothing_captured, of_length}
use Rattle.rhai_optimizer.proofs.Passing.{counts_to}
use Rattle.rhai_optimizer.proofs.optimizer.optimize_parts.Goals as goal
use Rattle.rhai_optimizer.proofs.optimizer.optimize_parts.Goals.{then-not-is_empty, else-not-is_empty}

pub returns : goal.returns
returns c =
    let first = rw (c.statements-2.ensures) at c.in_ok-functions.ensures in
    record {
      counts = c.in_ok-statements.ensures.counts;
      reduced = c.in_ok-statements.ensures.reduced;
      between = c.in_ok-functions.functions.items;
      first = first;
      finished = c.in_ok-statements.ensures.finished;
      second = rw (c.statements-3.ensures) at c.in_ok-functions-2.ensures _ _ (record { asked = λ h. elim c.if-not-is_empty.branch [ then-not-is_empty w ↦ inr (sym (rw (w.statements.ensures, w.as_slice-then-not-is_empty.ensures.value) at w.captures_nothing.ensures) ∙ nothing_captured _ _ w.captured-is h) | else-not-is_empty w ↦ inl (of_length c.args.functions.items (sym (rw (c.as_slice.ensures.value) at w.if-not-is_empty.ensures))) ]; statements = counts_to c.in_ok-statements.ensures.counts; bodies = first });
    }
