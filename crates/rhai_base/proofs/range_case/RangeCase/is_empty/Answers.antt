use Rattle.std.proofs.Common.{rules}
use Rattle.rhai_base.specs.Reading.{kinds}
use Rattle.rhai_base.proofs.range_case.RangeCase.is_empty.Goals as goal

pub returns-in-ExclusiveInt : goal.returns-in-ExclusiveInt
returns-in-ExclusiveInt c = search (rules, kinds)
