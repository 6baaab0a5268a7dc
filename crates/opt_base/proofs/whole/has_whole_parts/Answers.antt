use Rattle.std.proofs.Common.{◌∙◌}
use Rattle.ast_types.proofs.Cases.{expr_cases}
use Rattle.opt_base.proofs.WholeParts.{other_whole}
use Rattle.opt_base.proofs.whole.has_whole_parts.Goals as goal

pub returns-in_default : goal.returns-in_default
returns-in_default c = c.is_whole.ensures ∙ other_whole (expr_cases c.args.expr.now) c.in_default.not-InterpolatedString c.in_default.not-Array c.in_default.not-Map
