use Rattle.ast_types.proofs.Cases.{expr_cases}
use Rattle.ast_alike.proofs.Captured.{no_variable_called}
use Rattle.ast_alike.proofs.captures.is_called.Goals as goal

pub returns-in_default : goal.returns-in_default
returns-in_default c = no_variable_called (expr_cases c.args.expr.now) c.in_default.not-Variable c.args.name.now
