use Rattle.std.proofs.Common.{sym}
use Rattle.rhai_base.proofs.Units.{is_unit-other}
use Rattle.rhai_base.proofs.dynamic.Dynamic.is_unit.Goals as goal

pub returns-in_default : goal.returns-in_default
returns-in_default c = sym (is_unit-other _ c.in_default.not-Unit)
