use Rattle.ast_types.specs.Reading.{expr_of}
use Rattle.ast_alike.proofs.Captured.{default_put}
use Rattle.ast_alike.proofs.captures.put_in_expr.Goals as goal

pub returns-in_default : goal.returns-in_default
returns-in_default c = default_put c.expr_stmt-in_default.result c.args.expr c.args.name.now (expr_of c.args.value.now) c.in_default.not-FnCall c.expr_stmt-in_default.ensures.means
