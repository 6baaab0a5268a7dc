use Rattle.std.proofs.Common.{rules}
use Rattle.ast_types.specs.Reading.{shapes}
use Rattle.rhai_base.specs.Reading.{kinds}
use Rattle.opt_base.proofs.folding.folded_values.Goals as goal

pub returns : goal.returns
returns c = search (rules, shapes, kinds)
