use Rattle.std.proofs.Common.{◌≡◌, drop, map}
use Rattle.theory_meaning.specs.Walk.{arms_of_ranges}
use Rattle.ast_types.specs.Reading.{range_of}
use Rattle.theory_spelling.specs.Listed.{marked}
use Rattle.ast_alike.proofs.marks.mark_ranges.Given as goal

abbrev pub invariant-loop-range : goal.invariant-loop-range
invariant-loop-range l = marked l.initial.marks.items (arms_of_ranges (map range_of l.ranges)) ≡ marked l.marks.items (arms_of_ranges (map range_of (drop l.range-index l.ranges)))
