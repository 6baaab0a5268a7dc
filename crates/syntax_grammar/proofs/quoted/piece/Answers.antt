use Rattle.std.proofs.Common.{sym, ◌∙◌}
use Rattle.syntax_grammar.proofs.QuotedSteps.{doubled_at, escaped_at}
use Rattle.syntax_grammar.proofs.quoted.piece.Goals as goal

pub returns-then-letter-eq34 : goal.returns-then-letter-eq34
returns-then-letter-eq34 c = doubled_at c.in_ok-first.first c.in_ok-second.second c.args.letter c.in_ok-first.ensures.1 c.in_ok-second.ensures.1 c.if-first-eq34.true c.if-second-eq34.true c.if-letter-eq34.true

pub returns-then-escaped_letter-letter : goal.returns-then-escaped_letter-letter
returns-then-escaped_letter-letter c = escaped_at c.in_ok-first.first c.in_ok-second.second c.args.letter c.in_ok-first.ensures.1 c.in_ok-second.ensures.1 c.if-first-eq92.true c.if-letter-gt0.true (sym c.escaped_letter.ensures ∙ c.if-escaped_letter-letter.true)
