use Rattle.std.proofs.Common.{◌≡◌, ◌-◌, drop, length}
use Rattle.theory_grammar.specs.Words.{has_digit}
use Rattle.syntax_grammar.proofs.numbers.has_digit.Given as goal

abbrev pub invariant-loop-letter : goal.invariant-loop-letter
invariant-loop-letter l = has_digit l.base (drop l.place l.text) ≡ has_digit l.base (drop l.at l.text)

abbrev pub decreases-loop-letter : goal.decreases-loop-letter
decreases-loop-letter l = length l.text - l.place
