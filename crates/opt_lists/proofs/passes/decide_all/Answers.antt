use Rattle.std.proofs.Common.{◌≡◌, ◌+◌, ◌-◌, arith}
use Rattle.opt_lists.proofs.Whole.{sofar_start, sofar_next}
use Rattle.opt_lists.proofs.passes.decide_all.Goals as goal

pub loop-at-init : goal.loop-at-init
loop-at-init c = sofar_start c.len-at.result c.len-at.ensures

pub loop-at-preserved : goal.loop-at-preserved
loop-at-preserved c =
    let e : c.loop-at.at ≡ (c.loop-at.at - 1) + 1 = omega arith in
    sofar_next c.loop-at.invariant e c.decide-behind.ensures
