use Rattle.std.proofs.Common.{sym, ◌∙◌}
use Rattle.std.proofs.lemmas.Result.{IfOk-weaker}
use Rattle.rhai_optimizer.proofs.Whole.{parts_made, parts_untouched}
use Rattle.rhai_optimizer.proofs.optimizer.optimize_parts_at.Goals as goal

pub returns-then-optimises_nothing : goal.returns-then-optimises_nothing
returns-then-optimises_nothing c = parts_untouched c.args.level _ _ (sym c.optimises_nothing.ensures ∙ c.if-optimises_nothing.true)

pub returns : goal.returns
returns c = IfOk-weaker _ _ _ (λ x. parts_made c.args.level (sym c.optimises_nothing.ensures ∙ c.if-optimises_nothing.false)) c.optimize_parts.ensures
