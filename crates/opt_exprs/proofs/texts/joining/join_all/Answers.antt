use Rattle.std.proofs.Common.{get_or}
use Rattle.std.proofs.lemmas.List.{get_or_default}
use Rattle.ast_types.specs.Defaults.{nowhere}
use Rattle.ast_types.specs.declared.expr.Expr.TheVariants.{Unit as unit_at}
use Rattle.opt_exprs.proofs.TextJoins.{moving_start, moving_more, joined_long}
use Rattle.opt_exprs.proofs.texts.joining.join_all.Goals as goal

pub loop-at-init : goal.loop-at-init
loop-at-init c = moving_start

pub loop-at-preserved : goal.loop-at-preserved
loop-at-preserved c =
    let mid = c.texts_join.new.parts in
    let at = c.loop-at.at in
    let unit = unit_at nowhere in
    let x = get_or mid at unit in
    moving_more x c.loop-at.invariant c.in_ok-end.ensures (get_or_default mid at unit x (joined_long c.in_ok-end.ensures)) (c.move_down.ensures.front unit) c.move_down.ensures.back c.move_down.ensures.len c.move_down.ensures.same
