use Rattle.std.proofs.Common.{◌≡◌, ◌++◌, drop}
use Rattle.run_standard.specs.Texts.{replaced}
use Rattle.run_standard.proofs.parts.replaced.Given as goal

abbrev pub invariant-loop-i : goal.invariant-loop-i
invariant-loop-i l = l.all.items ++ replaced l.part l.others l.skipped (drop l.i l.chars) ≡ replaced l.part l.others 0 l.chars
