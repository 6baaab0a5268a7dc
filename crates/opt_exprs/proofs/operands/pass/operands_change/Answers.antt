use Rattle.opt_exprs.proofs.Moving.{went_by}
use Rattle.opt_exprs.proofs.operands.pass.operands_change.Goals as goal

pub returns : goal.returns
returns c = went_by c.args.operation _ _ c.pass.ensures _ _ c.len.ensures c.len-len.ensures
