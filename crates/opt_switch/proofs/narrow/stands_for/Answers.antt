use Rattle.std.proofs.Common.{◌∙◌}
use Rattle.opt_switch.proofs.Entries.{equal_tells}
use Rattle.opt_switch.proofs.narrow.stands_for.Goals as goal

pub returns : goal.returns
returns c = c.eq.ensures ∙ equal_tells c.args.subject.now c.args.key.now
