use Rattle.std.proofs.Common.{sym}
use Rattle.rhai_optimizer.proofs.Whole.{again_kept, none_both, none_of_none}
use Rattle.rhai_optimizer.proofs.functions.optimize_functions_again.Goals as goal
use Rattle.rhai_optimizer.proofs.functions.optimize_functions_again.Goals.{else-captured-via-then-captured+else-captures_nothing, else-captured-via-else-captured}

pub returns : goal.returns
returns c = λ ss fs once. again_kept c.args.captured (elim c.else-captured.branch [ else-captured-via-then-captured+else-captures_nothing w ↦ none_both c.args.captured _ (sym (rw (w.as_slice.ensures.value) at w.if-captures_nothing.ensures)) | else-captured-via-else-captured w ↦ none_of_none c.args.captured _ w.if-captured.false ]) once
