use Rattle.opt_lists.specs.Marks.{mark_of}
use Rattle.opt_lists.specs.Steps.{SoFar}
use Rattle.opt_lists.proofs.passes.decide_all.Given as goal

abbrev pub invariant-loop-at : goal.invariant-loop-at
invariant-loop-at l = SoFar (mark_of l.mark) l.at l.initial.list l.list l.behind

abbrev pub decreases-loop-at : goal.decreases-loop-at
decreases-loop-at l = l.at
