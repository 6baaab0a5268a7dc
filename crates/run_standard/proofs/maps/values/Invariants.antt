use Rattle.std.proofs.Common.{◌≡◌, ◌++◌, map}
use Rattle.rhai_base.specs.Reading.{value_of, members_of}
use Rattle.rhai_base.specs.Value.{fields}
use Rattle.run_standard.specs.Maps.{values_in}
use Rattle.run_standard.proofs.maps.values.Given as goal

abbrev pub invariant-loop-value : goal.invariant-loop-value
invariant-loop-value l = map value_of l.values ++ values_in (fields (members_of l.value-iterator)) ≡ values_in (fields (members_of l.members))
