use Rattle.ast_types.specs.Reading.{expr_of}
use Rattle.ast_types.proofs.Cases.{stmt_cases}
use Rattle.ast_alike.proofs.Captured.{no_expression_put}
use Rattle.ast_alike.proofs.captures.put_in_call.Goals as goal

pub returns-in_default : goal.returns-in_default
returns-in_default c = no_expression_put (stmt_cases c.args.stmt) c.in_default.not-Expr c.args.name.now (expr_of c.args.value.now)
