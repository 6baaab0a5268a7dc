use Rattle.opt_stmts.proofs.Nesting.{alone-other, only-parts}
use Rattle.opt_stmts.proofs.choice.nested.parts_of_only_if.Goals as goal

pub returns-in-Some : goal.returns-in-Some
returns-in-Some c = only-parts _ c.in-Some.ensures c.parts_of_if.ensures

pub returns-in-None : goal.returns-in-None
returns-in-None c = alone-other _ c.in-None.ensures
