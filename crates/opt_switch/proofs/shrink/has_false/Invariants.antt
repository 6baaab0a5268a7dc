use Rattle.std.proofs.Common.{◌≡◌, drop, map}
use Rattle.ast_types.specs.Reading.{arms_of, range_of}
use Rattle.theory_rewriting.specs.Shrinking.{has_false}
use Rattle.opt_switch.proofs.shrink.has_false.Given as goal

abbrev pub invariant-loop-range : goal.invariant-loop-range
invariant-loop-range l = has_false (arms_of l.arms) (map range_of l.ranges) ≡ has_false (arms_of l.arms) (map range_of (drop l.range-index l.ranges))
