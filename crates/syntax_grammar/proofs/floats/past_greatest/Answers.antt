use Rattle.syntax_grammar.proofs.FloatSteps.{greatest_at}
use Rattle.syntax_grammar.proofs.floats.past_greatest.Goals as goal

pub returns-then-past_decimal-next : goal.returns-then-past_decimal-next
returns-then-past_decimal-next c = greatest_at c.args.text.now c.past_decimal.result c.in_ok-next.next c.behind_blanks-start.ensures c.in_ok-next.ensures c.past_decimal.ensures c.if-past_decimal-next.true
