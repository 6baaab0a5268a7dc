use Rattle.std.proofs.Common.{◌≡◌, map, drop}
use Rattle.rhai_base.specs.Reading.{value_of}
use Rattle.run_standard.specs.Forms.{are_comparable}
use Rattle.run_standard.proofs.forms.are_comparable.Given as goal

abbrev pub invariant-loop-value : goal.invariant-loop-value
invariant-loop-value l = are_comparable (map value_of l.values) ≡ are_comparable (map value_of (drop l.value-index l.values))
