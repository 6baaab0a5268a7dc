use Rattle.std.proofs.Common.{◌≡◌, List, Some, map, sym, ap, ◌∙◌}
use Rattle.std.proofs.lemmas.List.{map-append}
use Rattle.std.specs.Option.{option_map}
use Rattle.rhai_base.specs.declared.dynamic.Dynamic.{Dynamic}
use Rattle.ast_types.specs.declared.expr.Expr.{Expr}
use Rattle.rhai_base.specs.Reading.{value_of, value_of-Array}
use Rattle.rhai_base.specs.Value.{ArrayV, values}
use Rattle.theory_meaning.specs.Constants.{array_value, value_and, constant_value, constant_values}
use Rattle.ast_types.specs.Reading.{expr_of, exprs_of}
use Rattle.ast_nodes.proofs.LiteralLists.{values_before, values_before-more, values_before-end}
use Rattle.ast_nodes.proofs.taken.taken_array.Goals as goal

pub loop-item-preserved : goal.loop-item-preserved
loop-item-preserved c =
    let old = map value_of c.loop-item.values.items in
    let rest = constant_values (exprs_of c.next.new.self) in
    let item : constant_value (expr_of c.in-Some.item) ≡ Some (value_of c.in-Some-2.value) = sym c.in_ok-value.ensures ∙ ap (option_map value_of) c.in-Some-2.is in
    c.loop-item.invariant
    ∙ ap (λ (es : List Expr). values_before old (constant_values (exprs_of es))) c.in-Some.ensures
    ∙ ap (λ v. values_before old (value_and v rest)) item
    ∙ values_before-more old (value_of c.in-Some-2.value) rest
    ∙ ap (λ zs. values_before zs rest) (sym (ap (map value_of) c.in_ok-push-in-Some-2.ensures.items ∙ map-append value_of c.loop-item.values.items _))

pub returns : goal.returns
returns c =
    let all : constant_values (exprs_of c.args.items) ≡ Some (map value_of c.loop-item.values.items) =
    c.loop-item.invariant ∙ ap (λ (es : List Expr). values_before (map value_of c.loop-item.values.items) (constant_values (exprs_of es))) c.in_default.ensures.0 ∙ values_before-end _ in
    ap Some (value_of-Array _) ∙ ap (λ (vs : List Dynamic). Some (ArrayV (values (map value_of vs)))) c.from_vec.ensures ∙ sym (ap array_value all)
