use Rattle.ast_alike.proofs.ByCases.{braced_many}
use Rattle.ast_alike.proofs.forms.unbraced.Goals as goal

pub returns-then-len-ne1 : goal.returns-then-len-ne1
returns-then-len-ne1 c = braced_many c.block_expression.result c.args.stmts c.len.result c.len.ensures c.if-len-ne1.true c.block_expression.ensures
