use Rattle.std.proofs.Common.{sym, ◌∙◌}
use Rattle.syntax_grammar.proofs.BlankSteps.{wider_at}
use Rattle.syntax_grammar.proofs.blanks.wide.Goals as goal

pub returns-then-is_wider : goal.returns-then-is_wider
returns-then-is_wider c = wider_at c.args.first c.in_ok-second.second c.in_ok-third.third c.in_ok-second.ensures.1 c.in_ok-third.ensures.1 (sym c.is_wider.ensures ∙ c.if-is_wider.true)
