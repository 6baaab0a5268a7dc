use Rattle.opt_reducer.proofs.Swept.{sweep_run}
use Rattle.opt_reducer.proofs.lists.sweep_list.Goals as goal

pub returns : goal.returns
returns c = sweep_run _ _ _ c.sweep-swept.ensures c.note.ensures.dirty c.note.ensures.known
