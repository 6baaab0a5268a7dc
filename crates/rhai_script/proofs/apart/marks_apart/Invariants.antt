use Rattle.std.proofs.Common.{◌≡◌, ◌<◌, ℕ, true}
use Rattle.rhai_script.specs.Renamed.{clash}
use Rattle.rhai_script.proofs.apart.marks_apart.Given as goal

abbrev pub invariant-loop-marks : goal.invariant-loop-marks
invariant-loop-marks l = (k : ℕ) → k < l.marks → clash k l.first.functions l.second.functions ≡ true
