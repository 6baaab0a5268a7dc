use Rattle.std.proofs.lemmas.Result.{IfOk-weaker}
use Rattle.syntax_grammar.proofs.ScriptSteps.{one_statement}
use Rattle.syntax_grammar.proofs.scripts.is_one_expression.Goals as goal

pub returns-in-Expr : goal.returns-in-Expr
returns-in-Expr c = IfOk-weaker c.is_as_read.result _ _ (λ yes f h. one_statement c.args.statements.now c.statement-item.result c.in-Expr.expr c.get.result.now c.in-len1.len_at_least c.in-len1.len_below c.statement-item.is c.in-Expr.is c.get.ensures (f h)) c.is_as_read.ensures
