use Rattle.opt_lists.proofs.Firing.{after_leave_fires}
use Rattle.opt_lists.proofs.rules.after_leave.Goals as goal

pub returns-clause-rule : goal.returns-clause-rule
returns-clause-rule c = λ m some. after_leave_fires c.args.list.now _ c.args.at m c.requires.inside c.requires.leaves c.truncate.ensures some
