use Rattle.ast_types.proofs.Cases.{expr_cases}
use Rattle.rhai_ast.proofs.OtherExprs.{no_unit}
use Rattle.rhai_ast.proofs.exprs.expr.ExprExprQueries.is_unit.Goals as goal

pub returns-in_default : goal.returns-in_default
returns-in_default c = no_unit (expr_cases c.args.self.now) c.in_default.not-Unit
