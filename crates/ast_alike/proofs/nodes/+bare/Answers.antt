use Rattle.std.proofs.Common.{ap, ◌∙◌}
use Rattle.theory_meaning.specs.Tree.{MapOf}
use Rattle.theory_spelling.specs.Bare.{bare_arms}
use Rattle.ast_types.specs.Reading.{arms_of, expr_of, expr_of-Map, keys_of, pairs_of}
use Rattle.ast_alike.proofs.ByCases.{ok_gives}
use Rattle.ast_alike.proofs.Lists.{arms_made, exprs_made, pairs_made, stmts_made}
use Rattle.ast_alike.proofs.Switches.{switched}
use Rattle.ast_alike.proofs.nodes.+bare.Goals as goal

pub bare_exprs-returns : goal.bare_exprs-returns
bare_exprs-returns t c = exprs_made _ _ _ c.loop-expr-test.false c.loop-expr.invariant

pub bare_pairs-returns : goal.bare_pairs-returns
bare_pairs-returns t c = pairs_made _ _ _ c.loop-pair-test.false c.loop-pair.invariant

pub bare_lines-returns : goal.bare_lines-returns
bare_lines-returns t c = stmts_made _ _ _ c.loop-stmt-test.false c.loop-stmt.invariant

pub bare_arms-returns : goal.bare_arms-returns
bare_arms-returns t c = arms_made _ _ _ c.loop-arm-test.false c.loop-arm.invariant

pub bare_map-returns : goal.bare_map-returns
bare_map-returns t c =
    expr_of-Map c.in_ok-new.field-0 _ ∙ ap (λ m. MapOf (pairs_of m.0) (keys_of m.1)) c.in_ok-new.ensures
    ∙ (λ i. MapOf ((ap pairs_of c.in_ok-parts.ensures.0 ∙ c.in_ok-pairs.ensures) i) (keys_of (ok_gives _ c.in_ok-parts.ensures.1 c.copy_template.ensures i)))

pub bare_switch-returns : goal.bare_switch-returns
bare_switch-returns t c =
    switched c.args.switch.now c.in_ok-switch.switch c.in_ok-expr-3.expr c.in_ok-expr-2.arms c.in_ok-expr-3.cases _ c.in_ok-switch.ensures
    (ap expr_of (c.in_ok-expr-3.ensures.0 ∙ c.in_ok-expr-2.ensures.0) ∙ c.in_ok-expr.ensures)
    (ok_gives _ c.in_ok-expr-2.ensures.1 c.bare_arms.ensures ∙ ap (λ bs. bare_arms (arms_of bs)) c.as_slice.ensures) (ok_gives _ c.in_ok-expr-3.ensures.1 c.table_with.ensures.arms)
    (ok_gives _ c.in_ok-expr-3.ensures.1 c.table_with.ensures.table)
