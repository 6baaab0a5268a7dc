use Rattle.rhai_base.specs.Reading.{dynamic_cases}
use Rattle.opt_chains.proofs.OtherParts.{no_integer}
use Rattle.opt_chains.proofs.parts.literals.integer_in.Goals as goal

pub returns-in_default : goal.returns-in_default
returns-in_default c = no_integer (dynamic_cases c.args.value.now) c.in_default.not-Int
