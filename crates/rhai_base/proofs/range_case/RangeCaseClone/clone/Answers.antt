use Rattle.std.proofs.Common.{rules}
use Rattle.rhai_base.specs.Reading.{kinds}
use Rattle.rhai_base.proofs.range_case.RangeCaseClone.clone.Goals as goal

pub returns-in_ok-clone-in-InclusiveInt : goal.returns-in_ok-clone-in-InclusiveInt
returns-in_ok-clone-in-InclusiveInt c = search (rules, kinds)
