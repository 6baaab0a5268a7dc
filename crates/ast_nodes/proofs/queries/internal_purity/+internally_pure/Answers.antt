use Rattle.std.proofs.Common.{◌∙◌}
use Rattle.ast_types.proofs.Cases.{expr_cases, stmt_cases}
use Rattle.ast_nodes.proofs.OtherQueries.{pure_alone, pure_statement}
use Rattle.ast_nodes.proofs.queries.internal_purity.+internally_pure.Goals as goal

pub is_internally_pure-returns-in_default : goal.is_internally_pure-returns-in_default
is_internally_pure-returns-in_default t c =
    c.is_pure.ensures ∙ pure_statement (stmt_cases c.args.stmt.now) c.in_default.not-Var c.in_default.not-Expr c.in_default.not-Import c.in_default.not-Export

pub is_internally_pure_expr-returns-in_default : goal.is_internally_pure_expr-returns-in_default
is_internally_pure_expr-returns-in_default t c = c.is_pure_expr.ensures ∙ pure_alone (expr_cases c.args.expr.now) c.in_default.not-Stmt
