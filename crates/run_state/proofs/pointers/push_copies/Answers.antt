use Rattle.std.proofs.Common.{◌++◌, ◌∷◌, [], ap, ◌∙◌}
use Rattle.run_state.proofs.Copied.{push_next, push_end}
use Rattle.run_state.proofs.pointers.push_copies.Goals as goal

pub loop-value-preserved : goal.loop-value-preserved
loop-value-preserved c =
    push_next c.loop-value.args c.push.new.self _ c.args.values.now c.loop-value.value-index _ c.loop-value-test.true c.value-item.is c.loop-value.invariant (c.in_ok-push.ensures.ok ∙ ap (λ v. c.loop-value.args ++ v ∷ []) c.in_ok-clone.ensures.cases)

pub returns : goal.returns
returns c = push_end c.loop-value.args _ c.args.values.now c.loop-value.value-index c.loop-value-test.false c.loop-value.invariant
