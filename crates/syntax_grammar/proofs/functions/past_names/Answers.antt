use Rattle.syntax_grammar.proofs.FunctionSteps.{names_next, names_over}
use Rattle.syntax_grammar.proofs.functions.past_names.Goals as goal

pub loop-param-preserved : goal.loop-param-preserved
loop-param-preserved c = λ rest r. c.loop-param.invariant rest (names_next c.args.params.now c.loop-param.param-index c.param-item.result c.as_str.result.now c.loop-param-test.true c.param-item.is c.as_str.ensures c.in_ok-start.ensures c.in_ok-place.ensures r)

pub returns : goal.returns
returns c = c.loop-param.invariant _ (names_over c.args.params.now c.loop-param.param-index c.loop-param-test.false c.in_ok-next.ensures)
