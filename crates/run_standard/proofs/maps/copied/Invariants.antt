use Rattle.std.proofs.Common.{◌≡◌, List, ℕ, ◌++◌}
use Rattle.rhai_base.specs.declared.dynamic.Dynamic.{Dynamic}
use Rattle.run_standard.proofs.maps.copied.Given as goal

abbrev pub invariant-loop-key : goal.invariant-loop-key
invariant-loop-key l =
    (done : List (List ℕ × Dynamic)) × (l.members ≡ done ++ l.key-iterator) × (l.copies ≡ done)
