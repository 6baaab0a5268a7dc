use Rattle.ast_types.proofs.Cases.{expr_cases}
use Rattle.ast_alike.proofs.Captured.{no_bool_false}
use Rattle.ast_alike.proofs.captures.is_false.Goals as goal

pub returns-in_default : goal.returns-in_default
returns-in_default c = no_bool_false (expr_cases c.args.expr.now) c.in_default.not-BoolConstant
