use Rattle.std.proofs.Common.{◌≡◌}
use Rattle.rhai_base.specs.Reading.{members_of}
use Rattle.rhai_base.specs.Value.{fields}
use Rattle.run_standard.specs.Maps.{merged}
use Rattle.run_standard.proofs.maps.merged.Given as goal

abbrev pub invariant-loop-key : goal.invariant-loop-key
invariant-loop-key l =
    merged (fields (members_of l.all)) (fields (members_of l.key-iterator)) ≡ merged (fields (members_of l.initial.all)) (fields (members_of l.others))
