use Rattle.std.proofs.Common.{drop}
use Rattle.theory_grammar.specs.Words.{Blanks}
use Rattle.syntax_grammar.proofs.blanks.behind_blanks.Given as goal

abbrev pub invariant-loop : goal.invariant-loop
invariant-loop l = Blanks (drop l.at l.text) (drop l.place l.text)
