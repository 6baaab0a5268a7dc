use Rattle.theory_grammar.specs.Grammar.{float}
use Rattle.syntax_grammar.proofs.Steps.{behind_open}
use Rattle.syntax_grammar.proofs.atoms.+float_signs.Goals as goal

pub float-returns-in-Some : goal.float-returns-in-Some
float-returns-in-Some t c = behind_open c.opened-open.ensures (λ l. float c.args.bits c.in-Some.ensures)
