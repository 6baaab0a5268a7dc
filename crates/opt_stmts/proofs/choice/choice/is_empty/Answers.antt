use Rattle.opt_stmts.proofs.Choosing.{empty-of}
use Rattle.opt_stmts.proofs.choice.choice.is_empty.Goals as goal

pub returns : goal.returns
returns c = empty-of _ _ c.is_empty.ensures
