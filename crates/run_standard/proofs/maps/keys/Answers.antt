use Rattle.std.proofs.Common.{◌∙◌}
use Rattle.run_standard.proofs.Entries.{keys-step}
use Rattle.run_standard.proofs.maps.keys.Goals as goal

pub loop-key-preserved : goal.loop-key-preserved
loop-key-preserved c =
    rw (c.in_ok-push.ensures.ok, c.in_ok-clone.ensures.cases) (keys-step _ _ _ _ _ c.in-Some.ensures.steps ∙ c.loop-key.invariant)
