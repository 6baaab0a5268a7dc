use Rattle.std.proofs.Common.{refl, sym, ap, ◌∙◌}
use Rattle.ast_types.specs.declared.expr.Expr.{Expr}
use Rattle.theory_meaning.specs.Tree.{ExprStmt}
use Rattle.ast_types.specs.Reading.{expr_of, stmt_of, stmt_of-Expr}
use Rattle.ast_types.proofs.Cases.{stmt_cases}
use Rattle.opt_base.proofs.Stepping.{rewrite_decided, stmt_rewrite_as}
use Rattle.opt_stmts.proofs.OtherStatements.{not_over_braces}
use Rattle.opt_stmts.proofs.expression.open_braces.Goals as goal

pub returns-in-Some-clause-step : goal.returns-in-Some-clause-step
returns-in-Some-clause-step c =
    let x = ap stmt_of c.in-Expr.is ∙ stmt_of-Expr _ ∙ ap (λ (e : Expr). ExprStmt (expr_of e)) (sym (c.get_mut.ensures.value ∙ c.in-Expr.expr-is)) in
    λ r w. rewrite_decided c.put_made.ensures.dirty c.put_made.ensures.known (stmt_rewrite_as x (ap stmt_of c.put_made.ensures.made) (c.in-Some.ensures.made w w))

pub returns-in_default : goal.returns-in_default
returns-in_default c = record { answer = not_over_braces (stmt_cases c.args.statement.now) c.in_default.not-Expr; step = λ r w. (refl, refl) }
