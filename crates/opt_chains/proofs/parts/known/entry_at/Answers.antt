use Rattle.rhai_base.specs.Reading.{dynamic_cases}
use Rattle.rhai_base.specs.Reading.{value_of}
use Rattle.opt_chains.proofs.OtherParts.{no_entry}
use Rattle.opt_chains.proofs.parts.known.entry_at.Goals as goal

pub returns-in_default : goal.returns-in_default
returns-in_default c = no_entry (value_of c.args.value.now) (dynamic_cases c.args.index.now) c.in_default.not-Str
