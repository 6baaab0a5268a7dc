use Rattle.ast_types.proofs.Cases.{expr_cases}
use Rattle.syntax_grammar.proofs.ExprSteps.{no_number}
use Rattle.syntax_grammar.proofs.marks.is_no_number.Goals as goal

pub returns-in_default : goal.returns-in_default
returns-in_default c = λ h. no_number (expr_cases c.args.expr.now) c.in_default.not-IntegerConstant c.in_default.not-FloatConstant
