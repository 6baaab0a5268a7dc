use Rattle.rhai_base.proofs.RangeCases.{numbers_are}
use Rattle.rhai_base.proofs.range_case.RangeCaseIntoIterator.into_iter.Goals as goal

pub returns : goal.returns
returns c = record { into_iter_gives = numbers_are c.args.self }
