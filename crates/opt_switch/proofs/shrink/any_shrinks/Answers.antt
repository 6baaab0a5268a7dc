use Rattle.opt_switch.proofs.Entries.{all_distinct}
use Rattle.opt_switch.proofs.shrink.any_shrinks.Goals as goal

pub returns-clause-distinct : goal.returns-clause-distinct
returns-clause-distinct c = all_distinct c.args.cases.now (rw c.as_map.ensures at c.iter.ensures.unique)
