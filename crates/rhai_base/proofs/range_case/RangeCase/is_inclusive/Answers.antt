use Rattle.std.proofs.Common.{rules}
use Rattle.rhai_base.proofs.range_case.RangeCase.is_inclusive.Goals as goal

pub returns-in-ExclusiveInt : goal.returns-in-ExclusiveInt
returns-in-ExclusiveInt c = search rules

pub returns-in-InclusiveInt : goal.returns-in-InclusiveInt
returns-in-InclusiveInt c = search rules
