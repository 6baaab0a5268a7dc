use Rattle.std.proofs.Common.{rules}
use Rattle.rhai_base.specs.Reading.{kinds}
use Rattle.rhai_base.proofs.range_case.RangeCaseFromRangeINT.from.Goals as goal

pub returns : goal.returns
returns c = search (rules, kinds)
