use Rattle.std.proofs.Common.{◌∙◌}
use Rattle.run_standard.proofs.Entries.{values-step}
use Rattle.run_standard.proofs.maps.values.Goals as goal

pub loop-value-preserved : goal.loop-value-preserved
loop-value-preserved c =
    rw (c.in_ok-push.ensures.ok, c.in_ok-clone.ensures.cases) (values-step _ _ _ _ _ c.in-Some.ensures.steps ∙ c.loop-value.invariant)
