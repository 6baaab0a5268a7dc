use Rattle.std.proofs.Common.{sym}
use Rattle.opt_lists.proofs.ByKind.{no_pure_unit}
use Rattle.opt_lists.proofs.questions.is_pure_unit.Goals as goal

pub returns-then-not-may_be_unit : goal.returns-then-not-may_be_unit
returns-then-not-may_be_unit c = no_pure_unit _ _ (sym c.if-not-may_be_unit.ensures)
