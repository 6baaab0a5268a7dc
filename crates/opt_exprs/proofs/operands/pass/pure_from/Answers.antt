use Rattle.std.proofs.Common.{sym, arith}
use Rattle.opt_exprs.proofs.Moving.{before_start, before_more}
use Rattle.opt_exprs.proofs.operands.pass.pure_from.Goals as goal

pub loop-from-init : goal.loop-from-init
loop-from-init c = before_start

pub loop-from-preserved : goal.loop-from-preserved
loop-from-preserved c = before_more c.index-operands-from.result c.loop-from.invariant (omega arith) (omega (arith, c.loop-from.invariant.low)) c.index-operands-from.is (sym c.if-goes_before.ensures)
