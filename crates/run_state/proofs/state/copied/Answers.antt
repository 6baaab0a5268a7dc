use Rattle.std.proofs.Common.{◌++◌, ◌∷◌, [], ◌∙◌}
use Rattle.run_state.proofs.Copied.{push_next, push_end}
use Rattle.run_state.proofs.state.copied.Goals as goal

pub loop-held-preserved : goal.loop-held-preserved
loop-held-preserved c =
    push_next c.loop-held.copies.items c.push.new.self.items _ c.args.scope.now c.loop-held.held-index _ c.loop-held-test.true c.held-item.is c.loop-held.invariant (c.in_ok-push.ensures.items ∙ (λ i. c.loop-held.copies.items ++ (record { name = c.in_ok-clone.ensures.cases i; kind = c.held-item.result.kind; value = c.in_ok-clone-2.ensures.cases i }) ∷ []))

pub returns : goal.returns
returns c = push_end c.loop-held.copies.items _ c.args.scope.now c.loop-held.held-index c.loop-held-test.false c.loop-held.invariant
