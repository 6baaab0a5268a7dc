use Rattle.opt_stmts.proofs.Nesting.{alone-long}
use Rattle.opt_stmts.proofs.choice.nested.is_bare_if_alone.Goals as goal

pub returns-in_default-2 : goal.returns-in_default-2
returns-in_default-2 c = alone-long _ c.in_default.len_at_least
