use Rattle.ast_types.proofs.Cases.{stmt_cases}
use Rattle.ast_alike.proofs.Captured.{no_var_known}
use Rattle.ast_alike.proofs.captures.is_known.Goals as goal

pub returns-in_default : goal.returns-in_default
returns-in_default c = no_var_known (stmt_cases c.args.stmt.now) c.in_default.not-Var
