use Rattle.opt_stmts.proofs.FiredStatements.{unlooped}
use Rattle.opt_stmts.proofs.loops.while_false.Goals as goal

pub returns : goal.returns
returns c = λ r w. unlooped _ c.requires c.put_nothing.ensures.dirty c.put_nothing.ensures.known c.put_nothing.ensures.nothing
