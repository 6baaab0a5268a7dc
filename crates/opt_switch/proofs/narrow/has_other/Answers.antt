use Rattle.std.proofs.Common.{◌∙◌}
use Rattle.rhai_base.specs.Reading.{value_of}
use Rattle.opt_switch.proofs.Entries.{some_other}
use Rattle.opt_switch.proofs.narrow.has_other.Goals as goal

pub returns : goal.returns
returns c = c.any_other.ensures ∙ some_other (value_of c.args.subject.now) c.args.cases.now
