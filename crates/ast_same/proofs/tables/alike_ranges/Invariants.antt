use Rattle.std.proofs.Common.{◌≡◌, drop, map}
use Rattle.ast_types.specs.Reading.{range_of}
use Rattle.ast_same.specs.Alike.{alike_ranges}
use Rattle.ast_same.proofs.tables.alike_ranges.Given as goal

abbrev pub invariant-loop-range : goal.invariant-loop-range
invariant-loop-range l = alike_ranges (map range_of (drop l.range-index l.first)) (map range_of l.rest) ≡ alike_ranges (map range_of l.first) (map range_of l.second)
