use Rattle.std.proofs.Common.{◌≡◌, ◌-◌, drop, length}
use Rattle.theory_grammar.specs.Words.{behind_digits}
use Rattle.syntax_grammar.proofs.decimals.past_digits.Given as goal

abbrev pub invariant-loop-letter : goal.invariant-loop-letter
invariant-loop-letter l = behind_digits 10 (drop l.place l.text) ≡ behind_digits 10 (drop l.at l.text)

abbrev pub decreases-loop-letter : goal.decreases-loop-letter
decreases-loop-letter l = length l.text - l.place
