use Rattle.std.proofs.Common.{◌+◌}
use Rattle.syntax_grammar.proofs.atoms.+float_signs.Given as goal

-- the signs that may still stand there
abbrev pub decreases-float : goal.decreases-float
decreases-float l = l.signs + l.signs

abbrev pub decreases-signed_float : goal.decreases-signed_float
decreases-signed_float l = l.signs + l.signs + 1
