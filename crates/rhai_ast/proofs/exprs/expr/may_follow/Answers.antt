use Rattle.ast_types.proofs.Cases.{expr_cases}
use Rattle.rhai_ast.proofs.OtherExprs.{none_follows}
use Rattle.rhai_ast.proofs.exprs.expr.may_follow.Goals as goal

pub returns-in_default : goal.returns-in_default
returns-in_default c = none_follows c.args.token.now (expr_cases c.args.expr.now) c.in_default.not-Variable c.in_default.not-Property
