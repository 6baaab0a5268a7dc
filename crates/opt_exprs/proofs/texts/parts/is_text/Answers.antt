use Rattle.ast_types.proofs.Cases.{expr_cases}
use Rattle.opt_exprs.proofs.PartKinds.{no_text}
use Rattle.opt_exprs.proofs.texts.parts.is_text.Goals as goal

pub returns-in_default : goal.returns-in_default
returns-in_default c = no_text (expr_cases c.args.part.now) c.in_default.not-StringConstant
