use Rattle.std.proofs.Common.{arith, ◌-◌}
use Rattle.syntax_grammar.proofs.Steps.{close}
use Rattle.syntax_grammar.proofs.parens.+closed.Goals as goal

pub returns-in-Some : goal.returns-in-Some
returns-in-Some t c = λ ws e o. c.closed.ensures ws e (close (c.args.found.open - 1) (omega arith) o c.in-Some.ensures)
