use Rattle.std.proofs.Common.{drop, take}
use Rattle.theory_grammar.specs.Words.{Pieces}
use Rattle.syntax_grammar.proofs.quoted.written.Given as goal

abbrev pub invariant-loop : goal.invariant-loop
invariant-loop l = Pieces (drop l.at l.text) (take l.done l.wanted) (drop l.place l.text)
