use Rattle.ast_types.proofs.Cases.{expr_cases}
use Rattle.opt_exprs.proofs.PartKinds.{no_empty_part}
use Rattle.opt_exprs.proofs.texts.parts.is_empty_part.Goals as goal

pub returns-in_default : goal.returns-in_default
returns-in_default c = no_empty_part (expr_cases c.args.part.now) c.in_default.not-Unit c.in_default.not-StringConstant c.in_default.not-DynamicConstant
