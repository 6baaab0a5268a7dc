use Rattle.std.proofs.Common.{set, ap, ◌∙◌}
use Rattle.ast_nodes.proofs.Changes.{none_changed, one_more_changed, all_changed}
use Rattle.ast_alike.specs.Gaps.{number_by}
use Rattle.ast_alike.proofs.listed.number_places.Goals as goal

pub loop-place-init : goal.loop-place-init
loop-place-init c = none_changed (number_by c.args.gaps.now) c.args.places.now

pub loop-place-preserved : goal.loop-place-preserved
loop-place-preserved c =
    ap (set c.loop-place.places c.loop-place.place-index) c.number.ensures
    ∙ one_more_changed (number_by c.args.gaps.now) c.args.places.now c.loop-place.places c.loop-place.place-index 0 c.loop-place-test.true c.loop-place.invariant

pub returns : goal.returns
returns c = all_changed (number_by c.args.gaps.now) c.args.places.now c.loop-place.places c.loop-place.place-index c.loop-place-test.false c.loop-place.invariant
