use Rattle.std.proofs.Common.{not, ap, ◌∙◌}
use Rattle.opt_switch.proofs.Entries.{some_ranges}
use Rattle.opt_switch.proofs.shrink.has_ranges.Goals as goal

pub returns : goal.returns
returns c = ap not c.is_empty.ensures ∙ some_ranges c.args.ranges.now
