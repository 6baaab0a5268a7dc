use Rattle.std.proofs.Common.{◌≡◌, [], ◌++◌, map, drop}
use Rattle.rhai_base.specs.Reading.{value_of}
use Rattle.run_standard.specs.Texts.{pieces}
use Rattle.run_standard.proofs.parts.pieces.Given as goal

abbrev pub invariant-loop-i : goal.invariant-loop-i
invariant-loop-i l = map value_of l.all ++ pieces l.part l.skipped l.piece.items (drop l.i l.chars) ≡ pieces l.part 0 [] l.chars
