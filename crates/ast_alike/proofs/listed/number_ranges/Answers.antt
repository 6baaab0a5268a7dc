use Rattle.std.proofs.Common.{set, ap, ◌∙◌}
use Rattle.rhai_base.specs.Ranges.{numbered}
use Rattle.ast_nodes.proofs.Changes.{none_changed, one_more_changed, all_changed}
use Rattle.ast_alike.specs.Gaps.{number_by, numbered_place}
use Rattle.ast_alike.proofs.listed.number_ranges.Goals as goal

pub loop-range-init : goal.loop-range-init
loop-range-init c = none_changed (numbered_place (number_by c.args.gaps.now)) c.args.ranges.now

pub loop-range-preserved : goal.loop-range-preserved
loop-range-preserved c =
    ap (set c.loop-range.ranges c.loop-range.range-index) (c.set_index.ensures ∙ ap (numbered _) (c.number-number.ensures ∙ ap (number_by c.args.gaps.now) c.index.ensures))
    ∙ one_more_changed (numbered_place (number_by c.args.gaps.now)) c.args.ranges.now c.loop-range.ranges c.loop-range.range-index _ c.loop-range-test.true c.loop-range.invariant

pub returns : goal.returns
returns c = all_changed (numbered_place (number_by c.args.gaps.now)) c.args.ranges.now c.loop-range.ranges c.loop-range.range-index c.loop-range-test.false c.loop-range.invariant
