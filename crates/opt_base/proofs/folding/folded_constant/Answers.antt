use Rattle.std.proofs.Common.{rules}
use Rattle.ast_types.specs.Reading.{shapes}
use Rattle.rhai_base.specs.Reading.{kinds}
use Rattle.opt_base.proofs.folding.folded_constant.Goals as goal

pub returns-in-Some : goal.returns-in-Some
returns-in-Some c = search (rules, shapes, kinds)
