use Rattle.std.proofs.Common.{◌≡◌, drop}
use Rattle.theory_grammar.specs.Words.{has_letter}
use Rattle.syntax_grammar.proofs.letters.has_letter.Given as goal

abbrev pub invariant-loop-other : goal.invariant-loop-other
invariant-loop-other l = has_letter l.letters l.letter ≡ has_letter (drop l.other-index l.letters) l.letter
