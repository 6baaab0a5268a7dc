use Rattle.std.proofs.Common.{sym, ◌∙◌}
use Rattle.syntax_grammar.proofs.BlankSteps.{block_closed, block_goes_on, block_opened}
use Rattle.syntax_grammar.proofs.blanks.in_block.Goals as goal

pub returns-then-opens : goal.returns-then-opens
returns-then-opens c = block_opened c.args.depth c.in-Some.first c.in-Some-letter_at.second c.requires c.in-Some.ensures.1 c.in-Some-letter_at.ensures.1 (sym c.opens.ensures ∙ c.if-opens.true)

pub returns-then-closes : goal.returns-then-closes
returns-then-closes c = block_closed c.args.depth c.in-Some.first c.in-Some-letter_at.second c.requires c.in-Some.ensures.1 c.in-Some-letter_at.ensures.1 (sym c.opens.ensures ∙ c.if-opens.false) (sym c.closes.ensures ∙ c.if-closes.true)

pub returns : goal.returns
returns c = block_goes_on _ c.args.depth c.in-Some.first c.in-Some-letter_at.second c.requires c.in-Some.ensures.1 c.in-Some-letter_at.ensures.1 (sym c.opens.ensures ∙ c.if-opens.false) (sym c.closes.ensures ∙ c.if-closes.false)
