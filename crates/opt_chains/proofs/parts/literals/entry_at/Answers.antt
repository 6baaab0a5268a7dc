use Rattle.rhai_base.specs.Reading.{dynamic_cases}
use Rattle.ast_types.specs.Reading.{pairs_of}
use Rattle.opt_chains.proofs.OtherParts.{no_key}
use Rattle.opt_chains.proofs.parts.literals.entry_at.Goals as goal

pub returns-in_default : goal.returns-in_default
returns-in_default c = no_key (pairs_of c.args.members.now) (dynamic_cases c.args.index.now) c.in_default.not-Str
