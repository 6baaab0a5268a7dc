use Rattle.std.proofs.Common.{◌∙◌}
use Rattle.ast_alike.specs.Closures.{closure_of}
use Rattle.ast_alike.proofs.Captured.{handed_more}
use Rattle.ast_alike.proofs.captures.handed.Goals as goal

pub loop-last-preserved : goal.loop-last-preserved
loop-last-preserved c =
    handed_more c.loop-last.rest.now c.in-Some.others.now c.in-Some.last.now (closure_of c.loop-last.closure) _ c.in-Some.ensures.cases.0 c.in_ok-closure.ensures
    ∙ c.loop-last.invariant
