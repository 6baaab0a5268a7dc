use Rattle.std.proofs.Common.{◌≡◌, true, false, sym, ◌∙◌}
use Rattle.ast_alike.proofs.ByCases.{curried, ok_gives}
use Rattle.ast_alike.proofs.constants.curried_call.Goals as goal

pub returns-clause-call : goal.returns-clause-call
returns-clause-call c =
    curried c.call.result c.args.pointer.now.name c.args.values c.in_ok-values-2.values c.in_ok-values-2.args c.in_ok-joined.field-0 c.in_ok-values.pointer
    (c.in_ok-values-2.ensures.0 ∙ c.in_ok-values.ensures.0) (ok_gives _ c.in_ok-values.ensures.1 c.pointer_alone.ensures.call)
    (ok_gives _ c.in_ok-values-2.ensures.1 c.from_array.ensures) c.in_ok-joined.ensures
    (λ q. let p : false ≡ true = sym c.if-is_alone.false ∙ c.is_empty-is_alone.ensures.1 q in cc) c.call.ensures.means
