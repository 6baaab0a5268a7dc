use Rattle.std.proofs.Common.{sym, ◌∙◌}
use Rattle.opt_lists.proofs.ByKind.{acts_inside, holds_none}
use Rattle.opt_lists.proofs.questions.is_pure_inside.Goals as goal

pub returns-then-not-differs_inside : goal.returns-then-not-differs_inside
returns-then-not-differs_inside c = acts_inside _ c.requires (sym c.if-not-differs_inside.ensures)

pub returns : goal.returns
returns c = c.is_internally_pure.ensures.value ∙ holds_none _ (sym c.if-not-differs_inside.ensures)
