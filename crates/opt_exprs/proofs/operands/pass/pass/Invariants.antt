use Rattle.opt_exprs.proofs.Moving.{Passing}
use Rattle.opt_exprs.proofs.operands.pass.pass.Given as goal

abbrev pub invariant-loop-at : goal.invariant-loop-at
invariant-loop-at l = Passing l.operation l.initial.operands l.operands l.at l.kept
