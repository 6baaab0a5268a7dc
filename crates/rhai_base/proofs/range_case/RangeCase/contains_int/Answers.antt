use Rattle.std.proofs.Common.{rules}
use Rattle.rhai_base.specs.Reading.{kinds}
use Rattle.rhai_base.proofs.range_case.RangeCase.contains_int.Goals as goal

pub returns-then-range-n : goal.returns-then-range-n
returns-then-range-n c = search (rules, kinds)

pub returns-else-range-n : goal.returns-else-range-n
returns-else-range-n c = search (rules, kinds)

pub returns-then-start-n : goal.returns-then-start-n
returns-then-start-n c = search (rules, kinds)

pub returns-else-start-n : goal.returns-else-start-n
returns-else-start-n c = search (rules, kinds)
