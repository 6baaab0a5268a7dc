use Rattle.std.proofs.Common.{refl}
use Rattle.ast_types.proofs.Cases.{expr_cases}
use Rattle.opt_exprs.proofs.PartKinds.{none_to_change}
use Rattle.opt_exprs.proofs.texts.nodes.change_text.Goals as goal

pub returns-in_default : goal.returns-in_default
returns-in_default c = (refl, none_to_change (expr_cases c.args.expr.now) c.in_default.not-InterpolatedString)
