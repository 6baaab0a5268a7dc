use Rattle.std.proofs.Common.{map, length, ap, ◌∙◌}
use Rattle.ast_types.specs.Reading.{range_of}
use Rattle.ast_alike.specs.Gaps.{number_by, numbered_place}
use Rattle.ast_alike.proofs.Kept.{all_written, ranges_are}
use Rattle.ast_alike.proofs.listed.numbered_ranges.Goals as goal

pub returns : goal.returns
returns c =
    let number = number_by c.args.gaps.now in
    ap (map range_of)
    (all_written c.in_ok-ranges.ranges c.number_ranges.new.ranges _ (c.number_ranges.auto.ranges ∙ ap length c.as_mut_slice.ensures.value)
    ∙ c.number_ranges.ensures
    ∙ ap (map (numbered_place number)) (c.as_mut_slice.ensures.value ∙ c.in_ok-ranges.ensures))
    ∙ ranges_are number c.args.ranges.now
