use Rattle.std.proofs.Common.{◌≡◌, map, drop}
use Rattle.rhai_base.specs.Reading.{value_of}
use Rattle.run_standard.specs.Arrays.{place_of}
use Rattle.run_standard.proofs.arrays.place_of.Given as goal

abbrev pub invariant-loop-i : goal.invariant-loop-i
invariant-loop-i l =
    place_of 0 (map value_of l.items) (value_of l.value) ≡ place_of l.i (map value_of (drop l.i l.items)) (value_of l.value)
