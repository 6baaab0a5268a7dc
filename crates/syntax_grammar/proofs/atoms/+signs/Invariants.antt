use Rattle.std.proofs.Common.{◌+◌}
use Rattle.syntax_grammar.proofs.atoms.+signs.Given as goal

-- the signs that may still stand there
abbrev pub decreases-integer : goal.decreases-integer
decreases-integer l = l.signs + l.signs

abbrev pub decreases-signed : goal.decreases-signed
decreases-signed l = l.signs + l.signs + 1
