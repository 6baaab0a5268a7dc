use Rattle.std.proofs.Common.{arith}
use Rattle.syntax_grammar.proofs.ExprSteps.{fit_call}
use Rattle.syntax_grammar.proofs.marks.is_first.Goals as goal

pub returns-in-FnCall : goal.returns-in-FnCall
returns-in-FnCall c = λ h k e. fit_call c.args.first.now c.in-FnCall.field-0 c.in-FnCall.field-1 k c.args.list c.args.level c.in-FnCall.is e (omega arith)
