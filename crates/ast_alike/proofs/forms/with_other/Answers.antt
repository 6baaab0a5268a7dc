use Rattle.ast_types.specs.Reading.{expr_of}
use Rattle.ast_alike.proofs.ByCases.{operands_many, operands_one}
use Rattle.ast_alike.proofs.forms.with_other.Goals as goal

pub returns-then-len-ne1 : goal.returns-then-len-ne1
returns-then-len-ne1 c = operands_many (expr_of c.args.other) c.args.operands c.len.result c.len.ensures c.if-len-ne1.true

pub returns : goal.returns
returns c = operands_one c.pushed.result c.args.other c.args.operands c.len.result c.len.ensures c.if-len-ne1.false c.pushed.ensures
