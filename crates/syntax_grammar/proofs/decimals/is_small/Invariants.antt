use Rattle.std.proofs.Common.{◌≡◌, ◌-◌, drop, length}
use Rattle.theory_grammar.specs.Words.{value_of}
use Rattle.syntax_grammar.proofs.decimals.is_small.Given as goal

abbrev pub invariant-loop-letter : goal.invariant-loop-letter
invariant-loop-letter l = value_of 10 l.value (drop l.place l.text) ≡ value_of 10 0 (drop l.at l.text)

abbrev pub decreases-loop-letter : goal.decreases-loop-letter
decreases-loop-letter l = length l.text - l.place
