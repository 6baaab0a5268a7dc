use Rattle.rhai_base.specs.Reading.{dynamic_cases}
use Rattle.opt_chains.proofs.OtherParts.{no_property}
use Rattle.opt_chains.proofs.parts.answers.property_of_constant.Goals as goal

pub returns-in_default : goal.returns-in_default
returns-in_default c = no_property (dynamic_cases c.args.value.now) c.in_default.not-Map c.args.name.now
