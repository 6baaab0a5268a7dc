use Rattle.std.proofs.Common.{◌≡◌, drop}
use Rattle.theory_grammar.specs.Words.{behind_digits, value_of}
use Rattle.syntax_grammar.proofs.numbers.digits.Given as goal

abbrev pub invariant-loop : goal.invariant-loop
invariant-loop l = (value_of l.base l.bits (drop l.place l.text) ≡ value_of l.base 0 (drop l.at l.text)) × (behind_digits l.base (drop l.place l.text) ≡ behind_digits l.base (drop l.at l.text))
