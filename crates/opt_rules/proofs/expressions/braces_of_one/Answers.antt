use Rattle.std.proofs.Common.{refl}
use Rattle.ast_types.proofs.Cases.{stmt_cases}
use Rattle.opt_base.specs.Places.{place_of}
use Rattle.opt_rules.proofs.Kept.{settled_in_braces}
use Rattle.opt_rules.proofs.expressions.braces_of_one.Goals as goal

pub returns-in_default : goal.returns-in_default
returns-in_default c = (refl, settled_in_braces (place_of c.args.place) (stmt_cases c.args.statement.now) c.in_default.not-Expr c.in_default.not-FnCall)
