use Rattle.std.proofs.Common.{◌≡◌, ◌-◌, drop, length}
use Rattle.theory_grammar.specs.Covered.{is_simple}
use Rattle.syntax_grammar.proofs.covered.is_simple.Given as goal

abbrev pub invariant-loop-letter : goal.invariant-loop-letter
invariant-loop-letter l = is_simple (drop l.at l.text) ≡ is_simple l.text

abbrev pub decreases-loop-letter : goal.decreases-loop-letter
decreases-loop-letter l = length l.text - l.at
