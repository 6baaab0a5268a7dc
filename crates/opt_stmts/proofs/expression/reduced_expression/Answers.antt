use Rattle.std.proofs.Common.{ap, ◌∙◌}
use Rattle.ast_types.specs.declared.expr.Expr.{Expr}
use Rattle.ast_types.specs.Reading.{expr_of}
use Rattle.ast_types.proofs.Cases.{expr_cases}
use Rattle.opt_stmts.specs.SettledStatements.{stays}
use Rattle.opt_stmts.proofs.OtherStatements.{stays_as_statement}
use Rattle.opt_stmts.proofs.expression.reduced_expression.Goals as goal

pub returns-in_default : goal.returns-in_default
returns-in_default c = record {
  answer = stays_as_statement (expr_cases c.take.result) c.in_default.not-Stmt c.in_default.not-FnCall ∙ ap (λ (e : Expr). stays (expr_of e)) c.take.ensures.taken;
  made = c.put_expr.ensures ∙ c.take.ensures.taken;
}
