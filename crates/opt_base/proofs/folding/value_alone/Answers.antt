use Rattle.std.proofs.Common.{rules}
use Rattle.ast_types.specs.Reading.{shapes}
use Rattle.rhai_base.specs.Reading.{kinds}
use Rattle.opt_base.proofs.folding.value_alone.Goals as goal

pub returns-in-Some-Err-Arithmetic : goal.returns-in-Some-Err-Arithmetic
returns-in-Some-Err-Arithmetic c = search (rules, shapes, kinds)
