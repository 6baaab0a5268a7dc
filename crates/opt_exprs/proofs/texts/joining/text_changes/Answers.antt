use Rattle.opt_exprs.proofs.TextJoins.{change_then, went_by}
use Rattle.opt_exprs.proofs.texts.joining.text_changes.Goals as goal

pub returns : goal.returns
returns c = went_by _ _ (change_then c.empty_go.ensures c.in_ok-join_all.ensures) _ _ c.len.ensures c.len-len.ensures
