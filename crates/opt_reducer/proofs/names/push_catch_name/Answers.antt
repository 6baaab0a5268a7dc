use Rattle.std.proofs.Common.{refl}
use Rattle.opt_reducer.proofs.Parts.{no_catch}
use Rattle.opt_reducer.proofs.names.push_catch_name.Goals as goal

pub returns-in_default : goal.returns-in_default
returns-in_default c = (refl, no_catch _ _ c.in_default.not-Variable)
