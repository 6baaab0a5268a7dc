use Rattle.std.proofs.Common.{◌≡◌, List, [], ◌∷◌, ◌++◌, ◌+◌, Some, drop, map, sym, ap, ◌∙◌, arith}
use Rattle.std.specs.Cow.{cow_value}
use Rattle.std.proofs.lemmas.List.{map-append}
use Rattle.rhai_base.specs.declared.dynamic.Dynamic.{Dynamic}
use Rattle.base_tokens.specs.declared.ident.Ident.{Ident}
use Rattle.ast_types.specs.declared.expr.Expr.{Expr}
use Rattle.rhai_base.specs.Reading.{members_of, value_of, value_of-Array, value_of-Map, value_of-Str}
use Rattle.rhai_base.specs.Value.{ArrayV, TextV, fields, values}
use Rattle.theory_meaning.specs.Constants.{array_value, joined_value, where_floatless, value_and, entry_and, constant_value, constant_values, constant_entries}
use Rattle.ast_nodes.specs.Lent.{lent_value}
use Rattle.ast_types.specs.Reading.{expr_of, exprs_of, pairs_of}
use Rattle.ast_types.proofs.ItemLists.{exprs_of-drop, pairs_of-drop}
use Rattle.ast_nodes.proofs.LiteralLists.{values_before, values_before-more, values_before-all, joined_from-all, map_from, map_from-more, map_from-all}
use Rattle.ast_nodes.proofs.literals.+lend_value.Goals as goal

pub array_value-returns : goal.array_value-returns
array_value-returns t c =
    let all = values_before-all c.args.items.now c.loop-item.item-index _ (omega (arith, c.loop-item-test.false, c.loop-item.auto.item-index-end)) c.loop-item.invariant in
    ap Some (value_of-Array _) ∙ ap (λ (vs : List Dynamic). Some (ArrayV (values (map value_of vs)))) c.from_vec.ensures ∙ sym (ap array_value all)

pub array_value-loop-item-preserved : goal.array_value-loop-item-preserved
array_value-loop-item-preserved t c =
    let old = map value_of c.loop-item.values.items in
    let rest = constant_values (exprs_of (drop (c.loop-item.item-index + 1) c.args.items.now)) in
    let item : constant_value (expr_of c.item-item.result) ≡ Some (value_of (cow_value c.in-Some.value)) = sym c.in_ok-value.ensures ∙ ap lent_value c.in-Some.is in
    c.loop-item.invariant
    ∙ ap (λ es. values_before old (constant_values es)) (exprs_of-drop c.args.items.now c.loop-item.item-index c.item-item.result c.loop-item-test.true)
    ∙ ap (λ e. values_before old (value_and (constant_value (expr_of e)) rest)) (sym c.item-item.is)
    ∙ ap (λ v. values_before old (value_and v rest)) item
    ∙ values_before-more old (value_of (cow_value c.in-Some.value)) rest
    ∙ ap (λ zs. values_before zs rest) (sym (ap (map value_of) (c.in_ok-push-in-Some.ensures.items ∙ ap (λ v. c.loop-item.values.items ++ (v ∷ [])) c.in_ok-owned-in-Some.ensures) ∙ map-append value_of c.loop-item.values.items _))

pub joined_value-returns : goal.joined_value-returns
joined_value-returns t c =
    let all = joined_from-all c.args.parts.now c.loop-part.part-index _ (omega (arith, c.loop-part-test.false, c.loop-part.auto.part-index-end)) c.loop-part.invariant in
    ap Some (value_of-Str _) ∙ ap (λ u. Some (TextV u)) c.in_ok-text.ensures ∙ sym all ∙ ap (λ b. joined_value (where_floatless b (constant_values (exprs_of c.args.parts.now)))) (sym (sym c.are_floatless.ensures ∙ c.if-not-are_floatless.false))

pub map_value-returns : goal.map_value-returns
map_value-returns t c =
    let all = map_from-all c.args.members.now c.loop-member.member-index _ (omega (arith, c.loop-member-test.false, c.loop-member.auto.member-index-end)) c.loop-member.invariant in
    ap Some (value_of-Map _) ∙ sym all

pub map_value-loop-member-preserved : goal.map_value-loop-member-preserved
map_value-loop-member-preserved t c =
    let old = fields (members_of c.loop-member.map) in
    let name = c.member-item.result.0.name in
    let rest = constant_entries (pairs_of (drop (c.loop-member.member-index + 1) c.args.members.now)) in
    let item : constant_value (expr_of c.member-item.result.1) ≡ Some (value_of (cow_value c.in-Some.value)) = sym c.in_ok-value.ensures ∙ ap lent_value c.in-Some.is in
    c.loop-member.invariant
    ∙ ap (λ ps. map_from old (constant_entries ps)) (pairs_of-drop c.args.members.now c.loop-member.member-index c.member-item.result c.loop-member-test.true)
    ∙ ap (λ (m : Ident × Expr). map_from old (entry_and m.0.name (constant_value (expr_of m.1)) rest)) (sym c.member-item.is)
    ∙ ap (λ v. map_from old (entry_and name v rest)) item
    ∙ map_from-more old name (value_of (cow_value c.in-Some.value)) rest
    ∙ ap (λ fs. map_from fs rest) (sym c.in_ok-put-in-Some.ensures)
