use Rattle.std.proofs.Common.{◌≡◌, rules, true, false, sym, ap, ◌∙◌}
use Rattle.ast_types.specs.declared.expr.Expr.{Expr}
use Rattle.theory_meaning.specs.Tree.{ExprStmt}
use Rattle.ast_types.specs.Reading.{shapes, expr_of, stmt_of, stmt_of-Expr}
use Rattle.ast_types.proofs.Cases.{stmt_cases}
use Rattle.opt_base.proofs.Stepping.{stmt_put, stmt_rewrite_as}
use Rattle.opt_stmts.proofs.OtherStatements.{no_expression}
use Rattle.opt_stmts.proofs.Settled.{expression_kept}
use Rattle.opt_stmts.proofs.expression.step_expression.Goals as goal

pub returns-in-Some-clause-step : goal.returns-in-Some-clause-step
returns-in-Some-clause-step c =
    let x = ap stmt_of c.in-Expr.is ∙ stmt_of-Expr _ ∙ ap (λ (e : Expr). ExprStmt (expr_of e)) (sym (c.get_mut.ensures.value ∙ c.in-Expr.expr-is)) in
    λ r. stmt_put r c.if-holds_some.reopens c.args.is_wanted _ _ _ _ _ c.step_of.ensures c.put_made.ensures.dirty c.put_made.ensures.known
    (stmt_rewrite_as x (ap stmt_of c.put_made.ensures.made) (c.in-Some.ensures.made c.if-holds_some.reopens c.args.is_wanted))

pub returns-in-None-clause-step : goal.returns-in-None-clause-step
returns-in-None-clause-step c =
    let x = ap stmt_of c.in-Expr.is ∙ stmt_of-Expr _ ∙ ap (λ (e : Expr). ExprStmt (expr_of e)) (sym (c.get_mut.ensures.value ∙ c.in-Expr.expr-is)) in
    λ r. expression_kept (expr_of c.get_mut.result.now) x (search (rules, shapes) ∙ ap (λ (e : Expr). ExprStmt (expr_of e)) c.in-None.ensures.made ∙ sym x) (sym c.in-None.ensures.answer)

pub returns-in_default : goal.returns-in_default
returns-in_default c = absurd (let z : false ≡ true = no_expression (stmt_cases c.args.statement.now) c.in_default.not-Expr ∙ c.requires in cc)
