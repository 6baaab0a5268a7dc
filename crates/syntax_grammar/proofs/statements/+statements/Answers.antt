use Rattle.std.proofs.lemmas.Option.{IfSome_then}
use Rattle.syntax_grammar.proofs.StatementSteps.{else_if_at, if_tree, list_next, list_over}
use Rattle.syntax_grammar.proofs.statements.+statements.Goals as goal

pub list-loop-node-preserved : goal.list-loop-node-preserved
list-loop-node-preserved t c = λ rest r. c.loop-node.invariant rest (list_next c.args.nodes.now c.loop-node.node-index c.node-item.result c.ends_by_itself-owed.result c.loop-node-test.true c.node-item.is c.ends_by_itself-owed.ensures c.in_ok-start.ensures c.in_ok-place.ensures r)

pub list-returns : goal.list-returns
list-returns t c = c.loop-node.invariant _ (list_over c.args.nodes.now c.loop-node.node-index c.loop-node-test.false c.in_ok-next.ensures)

pub else_if-returns-in-If : goal.else_if-returns-in-If
else_if-returns-in-If t c = IfSome_then c.choice.result c.choice.ensures (λ next r. else_if_at c.args.nodes.now c.node-item.result c.in-len1.len_at_least c.in-len1.len_below c.node-item.is (if_tree c.node-item.result c.in-If.flow c.get.result.now c.in-If.field-1 c.in-If.is c.get.ensures) r)
