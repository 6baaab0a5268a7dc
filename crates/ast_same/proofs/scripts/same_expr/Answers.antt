use Rattle.ast_types.specs.Reading.{expr_of}
use Rattle.ast_same.proofs.Exact.{same_exprs}
use Rattle.ast_same.proofs.scripts.same_expr.Goals as goal

pub returns : goal.returns
returns c = same_exprs c.alike_expr.result (expr_of c.args.first.now) (expr_of c.args.second.now) c.alike_expr.ensures
