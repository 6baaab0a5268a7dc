use Rattle.opt_lists.proofs.Whole.{sweeps_faded, sweeps_same, sweeps_closed}
use Rattle.opt_lists.proofs.passes.sweep.Goals as goal

pub returns-in-Some : goal.returns-in-Some
returns-in-Some c = sweeps_faded c.in-Some.fading c.decide_all-behind.ensures c.in-Some.is c.go_last.ensures

pub returns-then-behind : goal.returns-then-behind
returns-then-behind c = sweeps_closed c.close_up-moved.result c.decide_all-behind.ensures c.if-behind.true (rw c.is_wanted.ensures at c.close_up-moved.ensures.closed) c.close_up-moved.ensures.moved

pub returns : goal.returns
returns c = sweeps_same c.decide_all-behind.ensures c.in_default.is c.if-behind.false
