use Rattle.std.proofs.Common.{◌≡◌, drop}
use Rattle.theory_grammar.specs.Words.{behind_line}
use Rattle.syntax_grammar.proofs.blanks.line_end.Given as goal

abbrev pub invariant-loop : goal.invariant-loop
invariant-loop l = behind_line (drop l.place l.text) ≡ behind_line (drop l.at l.text)
