use Rattle.ast_types.proofs.Cases.{expr_cases}
use Rattle.opt_lists.proofs.Others.{no_braces}
use Rattle.opt_lists.proofs.questions.is_in_braces.Goals as goal

pub returns-in_default : goal.returns-in_default
returns-in_default c = no_braces (expr_cases c.args.expr.now) c.in_default.not-Stmt
