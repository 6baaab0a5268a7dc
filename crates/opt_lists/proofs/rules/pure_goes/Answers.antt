use Rattle.opt_lists.specs.declared.behind.Going.TheVariants.{Pure}
use Rattle.opt_lists.proofs.Deciding.{step_marked}
use Rattle.opt_lists.proofs.rules.pure_goes.Goals as goal

pub returns : goal.returns
returns c = rw c.changed.ensures (step_marked Pure c.requires.inside c.mark_at.ensures c.requires.unwanted c.requires.goes)
