use Rattle.ast_alike.proofs.ByCases.{braced_default}
use Rattle.ast_alike.proofs.forms.unbraced_only.Goals as goal

pub returns-in_ok-from_array-in_default : goal.returns-in_ok-from_array-in_default
returns-in_ok-from_array-in_default c =
    braced_default c.block_expression.result c.args.only _ c.in_ok-from_array-in_default.ensures c.in_default.not-Block c.in_default.not-Expr c.block_expression.ensures
