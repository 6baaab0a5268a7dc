use Rattle.ast_alike.specs.Closures.{closure_of}
use Rattle.ast_types.proofs.Cases.{stmt_cases}
use Rattle.ast_alike.proofs.Captured.{no_var_with}
use Rattle.ast_alike.proofs.captures.with_known.Goals as goal

pub returns-in_default : goal.returns-in_default
returns-in_default c = no_var_with (stmt_cases c.args.known.now) c.in_default.not-Var (closure_of c.args.closure)
