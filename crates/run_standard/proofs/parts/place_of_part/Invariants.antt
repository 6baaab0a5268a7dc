use Rattle.std.proofs.Common.{◌≡◌, drop}
use Rattle.run_standard.specs.Texts.{place_of_part}
use Rattle.run_standard.proofs.parts.place_of_part.Given as goal

abbrev pub invariant-loop-i : goal.invariant-loop-i
invariant-loop-i l = place_of_part 0 l.part l.chars ≡ place_of_part l.i l.part (drop l.i l.chars)
