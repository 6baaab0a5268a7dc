use Rattle.opt_lists.proofs.Firing.{last_return_fires}
use Rattle.opt_lists.proofs.rules.last_return.Goals as goal

pub returns-clause-rule : goal.returns-clause-rule
returns-clause-rule c = λ none. last_return_fires c.args.list.now _ c.args.at c.requires.inside c.requires.returns c.bare.ensures none
