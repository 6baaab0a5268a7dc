use Rattle.ast_types.proofs.Cases.{expr_cases}
use Rattle.ast_alike.proofs.Captured.{no_integer}
use Rattle.ast_alike.proofs.captures.is_integer.Goals as goal

pub returns-in_default : goal.returns-in_default
returns-in_default c = no_integer (expr_cases c.args.expr.now) c.in_default.not-IntegerConstant
