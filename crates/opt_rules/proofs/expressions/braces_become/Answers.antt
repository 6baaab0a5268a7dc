use Rattle.std.proofs.Common.{refl}
use Rattle.ast_types.proofs.Cases.{expr_cases}
use Rattle.opt_base.specs.Places.{place_of}
use Rattle.opt_rules.proofs.Kept.{others_stay}
use Rattle.opt_rules.proofs.expressions.braces_become.Goals as goal

pub returns-in_default : goal.returns-in_default
returns-in_default c = (refl, others_stay (place_of c.args.place) (expr_cases c.args.expr.now) c.in_default.not-Stmt)
