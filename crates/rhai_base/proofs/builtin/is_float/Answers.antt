use Rattle.rhai_base.proofs.Floats.{is_float-other}
use Rattle.rhai_base.proofs.builtin.is_float.Goals as goal

pub returns-in_default : goal.returns-in_default
returns-in_default c = is_float-other _ c.in_default.not-Float
