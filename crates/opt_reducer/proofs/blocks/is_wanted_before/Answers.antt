use Rattle.opt_reducer.proofs.Flattening.{wanted_before-rest}
use Rattle.opt_reducer.proofs.blocks.is_wanted_before.Goals as goal

pub returns-then-wanted : goal.returns-then-wanted
returns-then-wanted c = wanted_before-rest _ _ _ c.if-wanted.true c.is_empty.ensures
