use Rattle.std.proofs.Common.{◌-◌, length}
use Rattle.opt_exprs.proofs.TextJoins.{Running}
use Rattle.opt_exprs.proofs.texts.joining.run_end.Given as goal

abbrev pub invariant-loop-end : goal.invariant-loop-end
invariant-loop-end l = Running l.parts l.at l.end

abbrev pub decreases-loop-end : goal.decreases-loop-end
decreases-loop-end l = length l.parts - l.end
