use Rattle.std.proofs.Common.{◌≡◌}
use Rattle.ast_nodes.proofs.Changes.{first_changed}
use Rattle.ast_alike.specs.Gaps.{number_by, numbered_place}
use Rattle.ast_alike.proofs.listed.number_ranges.Given as goal

abbrev pub invariant-loop-range : goal.invariant-loop-range
invariant-loop-range l = l.ranges ≡ first_changed (numbered_place (number_by l.gaps)) l.initial.ranges l.range-index
