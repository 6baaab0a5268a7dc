use Rattle.opt_switch.proofs.Stepped.{table_rewritten, switch_kept}
use Rattle.opt_switch.proofs.step.step_switch.Goals as goal

pub returns-then-branch : goal.returns-then-branch
returns-then-branch c = rw c.if-branch.true at c.in_ok-decide_switch.ensures

pub returns-then-branch-2 : goal.returns-then-branch-2
returns-then-branch-2 c =
    let d = rw c.if-branch.false at c.in_ok-decide_switch.ensures in
    let t = rw c.if-branch-2.true at c.in_ok-step_table.ensures in
    λ r w. let z = d r w in table_rewritten z.0 z.1.0 t r w

pub returns : goal.returns
returns c =
    let d = rw c.if-branch.false at c.in_ok-decide_switch.ensures in
    let t = rw c.if-branch-2.false at c.in_ok-step_table.ensures in
    λ r w. let z = d r w in switch_kept c.requires z.1.1 z.0 z.1.0 t r w
