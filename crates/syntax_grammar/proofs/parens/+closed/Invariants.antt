use Rattle.syntax_grammar.proofs.parens.+closed.Given as goal

-- those that are open
abbrev pub decreases-closed : goal.decreases-closed
decreases-closed l = l.found.open
