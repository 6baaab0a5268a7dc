use Rattle.opt_lists.proofs.Marked.{Closing}
use Rattle.opt_lists.proofs.closing.close_up.Given as goal

abbrev pub invariant-loop-at : goal.invariant-loop-at
invariant-loop-at l = Closing l.is_wanted l.initial.list l.list l.at l.kept
