use Rattle.std.proofs.Common.{◌≡◌, List, ℕ, ◌++◌}
use Rattle.rhai_base.specs.declared.dynamic.Dynamic.{Dynamic}
use Rattle.run_standard.proofs.Entries.{others_of}
use Rattle.run_standard.proofs.maps.without.Given as goal

abbrev pub invariant-loop-other : goal.invariant-loop-other
invariant-loop-other l =
    (done : List (List ℕ × Dynamic)) × (l.members ≡ done ++ l.other-iterator) × (l.left ≡ others_of l.key done)
