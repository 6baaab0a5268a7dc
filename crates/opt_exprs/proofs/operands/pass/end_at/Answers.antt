use Rattle.std.proofs.Common.{◌≡◌, ◌<◌, ◌-◌, false, get_or, subst}
use Rattle.std.proofs.lemmas.List.{get_or_default}
use Rattle.ast_types.specs.Defaults.{nowhere}
use Rattle.ast_types.specs.Reading.{expr_of}
use Rattle.ast_types.specs.declared.expr.Expr as declared_expr
use Rattle.ast_types.specs.declared.expr.Expr.TheVariants.{Unit as unit_at}
use Rattle.opt_exprs.specs.Operands.{Declared, goes_before, GoBefore}
use Rattle.opt_exprs.proofs.Moving.{ends_at}
use Rattle.opt_exprs.proofs.operands.pass.end_at.Goals as goal

pub returns : goal.returns
returns c =
    let xs = c.args.operands.now in
    let unit = unit_at nowhere in
    let x = get_or xs c.args.at unit in
    let from = c.pure_from-from.result in
    let go = subst (λ (z : Declared). GoBefore c.args.operation z from c.args.kept) c.as_slice.ensures c.pure_from-from.ensures.go in
    let last = subst (λ (z : Declared). 0 < from → (d : declared_expr.Expr) → goes_before c.args.operation (expr_of (get_or z (from - 1) d)) ≡ false) c.as_slice.ensures c.pure_from-from.ensures.stays in
    ends_at x c.requires.below c.requires.inside (get_or_default xs c.args.at unit x c.requires.inside) (c.requires.decides unit) c.pure_from-from.ensures.below go last
    (c.move_down.ensures.front unit) c.move_down.ensures.len c.move_down.ensures.same c.truncate.ensures
