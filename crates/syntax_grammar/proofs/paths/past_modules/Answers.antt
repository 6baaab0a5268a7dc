use Rattle.syntax_grammar.proofs.PathSteps.{path_next, path_over}
use Rattle.syntax_grammar.proofs.paths.past_modules.Goals as goal

pub loop-module-preserved : goal.loop-module-preserved
loop-module-preserved c = λ x rest r. c.loop-module.invariant x rest (path_next c.args.modules.now c.loop-module.module-index c.module-item.result c.as_str.result.now c.loop-module-test.true c.module-item.is c.as_str.ensures c.in_ok-place.ensures r)

pub returns : goal.returns
returns c = c.loop-module.invariant _ _ (path_over c.args.modules.now c.loop-module.module-index c.loop-module-test.false c.in_ok-next.ensures)
