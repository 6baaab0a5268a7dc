use Rattle.opt_lists.proofs.Others.{nothing_of}
use Rattle.opt_lists.proofs.questions.is_nothing.Goals as goal

pub returns : goal.returns
returns c = nothing_of _ _ c.is_empty.ensures
