use Rattle.std.proofs.Common.{◌≡◌, ◌++◌, map}
use Rattle.rhai_base.specs.Reading.{value_of, members_of}
use Rattle.rhai_base.specs.Value.{fields}
use Rattle.run_standard.specs.Maps.{keys_in}
use Rattle.run_standard.proofs.maps.keys.Given as goal

abbrev pub invariant-loop-key : goal.invariant-loop-key
invariant-loop-key l = map value_of l.keys ++ keys_in (fields (members_of l.key-iterator)) ≡ keys_in (fields (members_of l.members))
