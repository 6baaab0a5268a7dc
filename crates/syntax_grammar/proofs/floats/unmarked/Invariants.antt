use Rattle.std.proofs.Common.{◌≡◌, ◌++◌, drop}
use Rattle.theory_grammar.specs.Words.{unmarked}
use Rattle.syntax_grammar.proofs.floats.unmarked.Given as goal

abbrev pub invariant-loop-letter : goal.invariant-loop-letter
invariant-loop-letter l = l.digits.items ++ unmarked (drop l.letter-index l.letters) ≡ unmarked l.letters
