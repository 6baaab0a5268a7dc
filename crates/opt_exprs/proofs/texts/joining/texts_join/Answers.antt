use Rattle.std.proofs.Common.{get_or, sym}
use Rattle.std.proofs.lemmas.List.{get_or_default}
use Rattle.ast_types.specs.Defaults.{nowhere}
use Rattle.ast_types.specs.declared.expr.Expr.TheVariants.{Unit as unit_at}
use Rattle.opt_exprs.proofs.TextJoins.{alone_at}
use Rattle.opt_exprs.proofs.texts.joining.texts_join.Goals as goal

pub returns-then-at-end : goal.returns-then-at-end
returns-then-at-end c =
    let xs = c.args.parts.now in
    let unit = unit_at nowhere in
    let x = get_or xs c.args.at unit in
    alone_at x c.requires (sym c.if-at-end.true) (get_or_default xs c.args.at unit x c.requires) (rw c.as_slice.ensures at (c.run_end-end.ensures.alone (sym c.if-at-end.true)))
