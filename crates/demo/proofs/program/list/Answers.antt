use Rattle.std.proofs.Common.{refl}
use Rattle.demo.specs.BuiltinScripts.{all_scripts}
use Rattle.demo.proofs.Listing.{listing_next}
use Rattle.demo.proofs.program.list.Goals as goal

pub loop-script-preserved : goal.loop-script-preserved
loop-script-preserved c =
    (refl, listing_next all_scripts _ _ _ _ _ _ _ c.loop-script-test.true c.name.ensures c.in_ok-push_str.ensures.bytes c.in_ok-push_str-2.ensures.bytes c.loop-script.invariant.1)
