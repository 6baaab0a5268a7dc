use Rattle.std.proofs.Common.{◌≡◌, rules, true, false, not, refl, sym, ap, ◌∙◌}
use Rattle.ast_types.specs.Reading.{shapes, expr_of, stmts_of, stmt_of, stmt_of-TryCatch}
use Rattle.ast_types.proofs.Cases.{stmt_cases}
use Rattle.opt_stmts.proofs.FiredStatements.{fires_as}
use Rattle.opt_stmts.proofs.OtherStatements.{no_try}
use Rattle.opt_stmts.proofs.Settled.{try_kept}
use Rattle.opt_stmts.proofs.try_catch.step_try.Goals as goal

pub returns-then-not-is_empty-clause-step : goal.returns-then-not-is_empty-clause-step
returns-then-not-is_empty-clause-step c =
    let f = c.in-TryCatch.flow in
    let x = ap stmt_of c.in-TryCatch.is ∙ stmt_of-TryCatch _ _ in
    λ r w. try_kept (expr_of f.expr) (stmts_of f.body.block) (stmts_of f.branch.block) x (search (rules, shapes) ∙ sym x) (ap not (sym (rw (c.get.ensures ∙ c.in-TryCatch.flow-is) at c.if-not-is_empty.ensures)))

pub returns-else-not-is_empty-clause-step : goal.returns-else-not-is_empty-clause-step
returns-else-not-is_empty-clause-step c = λ r w. fires_as (ap stmt_of c.in-TryCatch.is ∙ stmt_of-TryCatch _ _ ∙ sym (search (rules, shapes))) refl (c.pure_try.ensures r w)

pub returns-in_default : goal.returns-in_default
returns-in_default c = absurd (let z : false ≡ true = no_try (stmt_cases c.args.statement.now) c.in_default.not-TryCatch ∙ c.requires in cc)
