use Rattle.opt_stmts.proofs.FiredAssignments.{shared-none}
use Rattle.opt_stmts.proofs.assign.share.share_nothing.Goals as goal

pub returns : goal.returns
returns c = λ r w. shared-none _ c.requires c.put_nothing.ensures.dirty c.put_nothing.ensures.known c.put_nothing.ensures.nothing
