use Rattle.opt_exprs.proofs.Moving.{Purging}
use Rattle.opt_exprs.proofs.operands.pass.pure_from.Given as goal

abbrev pub invariant-loop-from : goal.invariant-loop-from
invariant-loop-from l = Purging l.operation l.operands l.from l.kept

abbrev pub decreases-loop-from : goal.decreases-loop-from
decreases-loop-from l = l.from
