use Rattle.std.proofs.Common.{map, ap, ◌∙◌}
use Rattle.ast_types.specs.Reading.{expr_of}
use Rattle.script_names.specs.Names.{stands}
use Rattle.script_names.proofs.Given.{ok_gives, ok_matches}
use Rattle.script_names.proofs.Lists.{arms_made, exprs_made, named_item, new_named, new_sides, one_more, pairs_made, sides_item, stmts_made}
use Rattle.script_names.proofs.nodes.+renamed.Goals as goal

pub renamed_list-returns : goal.renamed_list-returns
renamed_list-returns t c = exprs_made (stands c.args.names.now) _ _ _ c.loop-expr-test.false c.loop-expr.invariant

pub renamed_pairs-loop-pair-preserved : goal.renamed_pairs-loop-pair-preserved
renamed_pairs-loop-pair-preserved t c =
    let named = stands c.args.names.now in
    ap (map named_item) c.in_ok-copies-2.ensures
    ∙ one_more named_item (new_named named) c.in_ok-items.items (c.in_ok-items.name, c.in_ok-items.item) c.args.pairs.now c.loop-pair.pair-index c.pair-item.result c.loop-pair-test.true
    (ap (map named_item) (ap (λ p. p.0) c.in_ok-items.ensures.0 ∙ c.in_ok-start.ensures.0) ∙ c.loop-pair.invariant)
    ((λ i. ((ok_matches _ _ c.in_ok-items.ensures.1 c.clone.ensures.cases i).name, (ap (λ p. expr_of p.1) c.in_ok-items.ensures.0 ∙ ok_gives _ c.in_ok-start.ensures.1 c.renamed_expr.ensures) i))
    ∙ ap (new_named named) c.pair-item.is)

pub renamed_pairs-returns : goal.renamed_pairs-returns
renamed_pairs-returns t c = pairs_made (stands c.args.names.now) _ _ _ c.loop-pair-test.false c.loop-pair.invariant

pub renamed_stmts-returns : goal.renamed_stmts-returns
renamed_stmts-returns t c = stmts_made (stands c.args.names.now) _ _ _ c.loop-stmt-test.false c.loop-stmt.invariant

pub renamed_arms-loop-arm-preserved : goal.renamed_arms-loop-arm-preserved
renamed_arms-loop-arm-preserved t c =
    let named = stands c.args.names.now in
    ap (map sides_item) c.in_ok-copies-2.ensures
    ∙ one_more sides_item (new_sides named) c.in_ok-items.items c.in_ok-items.item c.args.arms.now c.loop-arm.arm-index c.arm-item.result c.loop-arm-test.true
    (ap (map sides_item) c.in_ok-items.ensures.0 ∙ c.loop-arm.invariant)
    ((λ i. (ok_gives _ c.in_ok-items.ensures.1 c.renamed_sides.ensures.lhs i, ok_gives _ c.in_ok-items.ensures.1 c.renamed_sides.ensures.rhs i))
    ∙ ap (new_sides named) c.arm-item.is)

pub renamed_arms-returns : goal.renamed_arms-returns
renamed_arms-returns t c = arms_made (stands c.args.names.now) _ _ _ c.loop-arm-test.false c.loop-arm.invariant
