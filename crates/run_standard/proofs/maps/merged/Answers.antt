use Rattle.std.proofs.Common.{◌∙◌}
use Rattle.run_standard.proofs.Entries.{merged-step}
use Rattle.run_standard.proofs.maps.merged.Goals as goal

pub loop-key-preserved : goal.loop-key-preserved
loop-key-preserved c =
    rw (c.in_ok-insert.ensures.ok, c.in_ok-clone.ensures.cases, c.in_ok-clone-2.ensures.cases) (merged-step _ _ _ _ _ c.in-Some.ensures.steps ∙ c.loop-key.invariant)
