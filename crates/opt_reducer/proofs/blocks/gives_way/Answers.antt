use Rattle.std.proofs.Common.{sym}
use Rattle.opt_reducer.proofs.Flattening.{other_stays}
use Rattle.opt_reducer.proofs.blocks.gives_way.Goals as goal

pub returns-in_default : goal.returns-in_default
returns-in_default c = sym (other_stays _ c.in_default.not-Block)
