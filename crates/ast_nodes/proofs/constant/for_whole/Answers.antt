use Rattle.std.proofs.Common.{◌≡◌, Some, sym, ap, ◌∙◌}
use Rattle.std.proofs.lemmas.Result.{IfOk-weaker}
use Rattle.rhai_base.specs.Reading.{value_of}
use Rattle.ast_types.specs.Reading.{expr_of}
use Rattle.theory_meaning.specs.Constants.{constant_for, literal_value}
use Rattle.theory_meaning.specs.Tree.{DynamicConstant}
use Rattle.ast_nodes.proofs.Held.{held}
use Rattle.ast_nodes.proofs.constant.for_whole.Goals as goal

pub returns-in-Err-into_fn_ptr-clause-value : goal.returns-in-Err-into_fn_ptr-clause-value
returns-in-Err-into_fn_ptr-clause-value c =
    let v = value_of c.args.value in
    let same = c.in-Err.ensures.0 in
    let h = held c.args.value c.requires c.in-Err.ensures.1 (λ p e. c.in-Err-into_fn_ptr.ensures.1 p (same ∙ e)) in
    IfOk-weaker c.dynamic_constant.result (λ e. expr_of e ≡ DynamicConstant v) (λ e. expr_of e ≡ constant_for v) (λ e x. x ∙ sym h) (rw (c.in-Err-into_fn_ptr.ensures.0, same) at c.dynamic_constant.ensures.value)

pub returns-in-Err-into_fn_ptr-clause-round_trip : goal.returns-in-Err-into_fn_ptr-clause-round_trip
returns-in-Err-into_fn_ptr-clause-round_trip c =
    let v = value_of c.args.value in
    IfOk-weaker c.dynamic_constant.result (λ e. expr_of e ≡ DynamicConstant v) (λ e. literal_value (expr_of e) ≡ Some v) (λ e x. ap literal_value x) (rw (c.in-Err-into_fn_ptr.ensures.0, c.in-Err.ensures.0) at c.dynamic_constant.ensures.value)
