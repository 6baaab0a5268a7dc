use Rattle.opt_stmts.proofs.FiredStatements.{tried}
use Rattle.opt_stmts.proofs.try_catch.pure_try.Goals as goal

pub returns : goal.returns
returns c = λ r w. tried _ c.requires c.put_nothing.ensures.dirty c.put_nothing.ensures.known c.put_nothing.ensures.nothing
