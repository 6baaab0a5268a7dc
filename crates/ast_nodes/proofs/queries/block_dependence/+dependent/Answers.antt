use Rattle.ast_types.proofs.Cases.{expr_cases, stmt_cases}
use Rattle.ast_nodes.proofs.OtherQueries.{independent, no_dependence}
use Rattle.ast_nodes.proofs.queries.block_dependence.+dependent.Goals as goal

pub is_block_dependent-returns-in_default : goal.is_block_dependent-returns-in_default
is_block_dependent-returns-in_default t c =
    independent (stmt_cases c.args.stmt.now) c.in_default.not-Var c.in_default.not-Import c.in_default.not-Export c.in_default.not-FnCall c.in_default.not-Expr

pub is_dependent_expr-returns-in_default : goal.is_dependent_expr-returns-in_default
is_dependent_expr-returns-in_default t c = no_dependence (expr_cases c.args.expr.now) c.in_default.not-Stmt c.in_default.not-FnCall
