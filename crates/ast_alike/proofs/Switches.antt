-- A `switch` whose parts are bare.
use Rattle.std.proofs.Common.{◌≡◌, List, ap, ◌∙◌}
use Rattle.base_tokens.specs.declared.position.Position.{Position}
use Rattle.ast_types.specs.declared.expr.BinaryExpr.{BinaryExpr}
use Rattle.ast_types.specs.declared.expr.Expr.{Expr}
use Rattle.ast_types.specs.declared.expr.Expr.TheViews as views
use Rattle.ast_types.specs.declared.stmt.Stmt.TheVariants as stmt_kind
use Rattle.ast_types.specs.declared.switch.SwitchBlock.{SwitchBlock}
use Rattle.ast_types.specs.declared.switch.SwitchCasesCollection.{SwitchCasesCollection}
use Rattle.ast_types.specs.Reading.{arms_of, cases_of, expr_of, expressions_of, stmt_of, stmt_of-Switch, subject_of, table_of}
use Rattle.theory_meaning.specs.Tree.{Switch}
use Rattle.theory_spelling.specs.Bare.{bare_arms, bare_expr, bare_stmt, has_true_default, with_default}
use Rattle.theory_spelling.specs.Listed.{listed_arms, listed_table, listed_switch}

pub switched : (given made : SwitchBlock) (e : Expr) (arms : List BinaryExpr) (t : SwitchCasesCollection) (p : Position) → made ≡ views.roll-SwitchBlock (record { expr = e; cases = t })
    → expr_of e ≡ bare_expr (expr_of (subject_of given)) → arms_of arms ≡ bare_arms (arms_of (expressions_of (cases_of given)))
    → arms_of (expressions_of t) ≡ listed_arms (table_of (cases_of given)) (with_default (has_true_default (arms_of (expressions_of (cases_of given))) (table_of (cases_of given)).default) (arms_of arms) (table_of (cases_of given)).default)
    → table_of t ≡ listed_table (table_of (cases_of given)) (with_default (has_true_default (arms_of (expressions_of (cases_of given))) (table_of (cases_of given)).default) (arms_of arms) (table_of (cases_of given)).default)
    → stmt_of (stmt_kind.Switch made p) ≡ bare_stmt (Switch (expr_of (subject_of given)) (arms_of (expressions_of (cases_of given))) (table_of (cases_of given)))
switched given made e arms t p is subject within answers table =
    let rolled = views.out-roll-SwitchBlock (record { expr = e; cases = t }) in
    let u = table_of (cases_of given) in
    let had = has_true_default (arms_of (expressions_of (cases_of given))) u.default in
    stmt_of-Switch made p
    ∙ ap (λ (s : SwitchBlock). Switch (expr_of (subject_of s)) (arms_of (expressions_of (cases_of s))) (table_of (cases_of s))) is
    ∙ ap (λ o. Switch (expr_of o.expr) (arms_of (expressions_of o.cases)) (table_of o.cases)) rolled
    ∙ (λ i. Switch (subject i) (answers i) (table i))
    ∙ ap (λ as'. listed_switch (bare_expr (expr_of (subject_of given))) (with_default had as' u.default) u) within
