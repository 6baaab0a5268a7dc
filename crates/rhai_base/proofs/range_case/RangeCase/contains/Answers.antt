use Rattle.rhai_base.proofs.RangeCases.{not_integer}
use Rattle.rhai_base.proofs.range_case.RangeCase.contains.Goals as goal

pub returns-in_default : goal.returns-in_default
returns-in_default c = not_integer c.args.self.now c.args.value.now c.in_default.not-Int c.in_default.not-Float
