use Rattle.opt_lists.specs.declared.behind.Fading.TheVariants.{LastReturn}
use Rattle.opt_lists.proofs.Firing.{last_noop_fires, return-acts}
use Rattle.opt_lists.proofs.rules.last_return_noop.Goals as goal

pub returns-clause-rule : goal.returns-clause-rule
returns-clause-rule c = λ m n z. last_noop_fires c.args.list.now _ LastReturn m n (rw c.len-last.ensures at c.mark_at.ensures) z (return-acts m z.1.0 z.1.2)
