use Rattle.std.proofs.Common.{rules, ◌≡◌, w64}
use mir.Val.{of_z, to_z}
use Rattle.rhai_base.specs.Reading.{value_of-Range, value_of-RangeInclusive}
use Rattle.run_standard.proofs.standard_host.on_kind.Goals as goal

pub returns-in-Range : goal.returns-in-Range
returns-in-Range c =
    let from : to_z w64 (of_z w64 c.in-Range.from) ≡ c.in-Range.from = search rules in
    let end : to_z w64 (of_z w64 c.in-Range.to) ≡ c.in-Range.to = search rules in
    rw (c.in-Range.is, value_of-Range) (simp (from, end) at c.on_range.ensures)

pub returns-in-RangeInclusive : goal.returns-in-RangeInclusive
returns-in-RangeInclusive c =
    let from : to_z w64 (of_z w64 c.in-RangeInclusive.from) ≡ c.in-RangeInclusive.from = search rules in
    let end : to_z w64 (of_z w64 c.in-RangeInclusive.to) ≡ c.in-RangeInclusive.to = search rules in
    rw (c.in-RangeInclusive.is, value_of-RangeInclusive) (simp (from, end) at c.on_range-in-RangeInclusive.ensures)
