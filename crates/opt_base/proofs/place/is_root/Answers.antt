use Rattle.ast_types.proofs.Cases.{expr_cases}
use Rattle.opt_base.proofs.Roots.{no_root}
use Rattle.opt_base.proofs.place.is_root.Goals as goal

pub returns-in_default : goal.returns-in_default
returns-in_default c = no_root (expr_cases c.args.expr.now) c.in_default.not-Variable c.in_default.not-ThisPtr
