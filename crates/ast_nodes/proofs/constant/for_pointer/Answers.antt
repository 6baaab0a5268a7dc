use Rattle.std.proofs.Common.{◌≡◌, Some, map, ap, ◌∙◌}
use Rattle.std.proofs.lemmas.Result.{IfOk-weaker}
use Rattle.rhai_base.specs.Reading.{value_of}
use Rattle.rhai_base.specs.Value.{PointerV, values}
use Rattle.ast_types.specs.Reading.{expr_of}
use Rattle.theory_meaning.specs.Constants.{literal_value, pointer_call}
use Rattle.ast_nodes.proofs.Pointers.{none_curried, pointer_written}
use Rattle.ast_nodes.proofs.constant.for_pointer.Goals as goal

pub returns-clause-round_trip : goal.returns-clause-round_trip
returns-clause-round_trip c =
    let f = c.args.pointer.name in
    let vs = c.args.pointer.curried in
    let bare = none_curried c.is_curried.result vs c.is_curried.ensures c.if-is_curried.false in
    let written = pointer_written f vs c.into_name.ensures.valid bare in
    IfOk-weaker c.pointer_call.result (λ e. expr_of e ≡ pointer_call c.into_name.result) (λ e. literal_value (expr_of e) ≡ Some (PointerV f (values (map value_of vs))))
    (λ e h. ap literal_value (h ∙ ap pointer_call c.into_name.ensures.name) ∙ written)
    c.pointer_call.ensures.value
