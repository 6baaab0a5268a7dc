use Rattle.rhai_script.specs.Renamed.{as_it_is}
use Rattle.rhai_script.proofs.Taken.{in_some, in_none}
use Rattle.rhai_script.proofs.ast.AST.apart_from.Goals as goal

pub returns-in-Some : goal.returns-in-Some
returns-in-Some c = in_some _ _ _ _ c.in-Some.is c.in_ok-copy.ensures

pub returns-in-None : goal.returns-in-None
returns-in-None c = as_it_is (in_none _ _ _ c.in-None.is c.in_ok-copy.ensures)
