use Rattle.std.proofs.Common.{drop}
use Rattle.syntax_grammar.specs.Open.{Opened}
use Rattle.syntax_grammar.proofs.parens.opened.Given as goal

abbrev pub invariant-loop-count : goal.invariant-loop-count
invariant-loop-count l = Opened l.count (drop l.at l.text) (drop l.place l.text)
