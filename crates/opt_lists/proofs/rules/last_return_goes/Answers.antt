use Rattle.opt_lists.specs.declared.behind.Fading.TheVariants.{LastReturn}
use Rattle.opt_lists.proofs.Firing.{last_goes_fires}
use Rattle.opt_lists.proofs.rules.last_return_goes.Goals as goal

pub returns-clause-rule : goal.returns-clause-rule
returns-clause-rule c = λ m z. last_goes_fires c.args.list.now _ c.args.len LastReturn m c.truncate.ensures z
