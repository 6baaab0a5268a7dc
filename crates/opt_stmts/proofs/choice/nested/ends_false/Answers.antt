use Rattle.opt_stmts.proofs.Ends.{ends_by}
use Rattle.opt_stmts.proofs.choice.nested.ends_false.Goals as goal

pub returns-in-Some : goal.returns-in-Some
returns-in-Some c = ends_by _ c.in-Some.field-0-1.now c.in-Some.last.now _ c.in-Some.ensures.cases.0 c.is_false.ensures
