use Rattle.std.proofs.Common.{◌&&◌, ◌+◌, drop, sym, ap, ◌∙◌}
use Rattle.base_tokens.specs.declared.ident.Ident.{Ident}
use Rattle.ast_types.specs.declared.expr.Expr.{Expr}
use Rattle.theory_meaning.specs.Constants.{is_floatless, pairs_are_floatless}
use Rattle.ast_types.specs.Reading.{expr_of, pairs_of}
use Rattle.ast_types.proofs.ItemLists.{pairs_of-drop}
use Rattle.ast_nodes.proofs.queries.floatless.+floatless.Goals as goal

pub are_floatless_members-loop-member-preserved : goal.are_floatless_members-loop-member-preserved
are_floatless_members-loop-member-preserved t c =
    let rest = pairs_are_floatless (pairs_of (drop (c.loop-member.member-index + 1) c.args.members.now)) in
    c.loop-member.invariant
    ∙ ap pairs_are_floatless (pairs_of-drop c.args.members.now c.loop-member.member-index c.member-item.result c.loop-member-test.true)
    ∙ ap (λ (m : Ident × Expr). is_floatless (expr_of m.1) && rest) (sym c.member-item.is)
    ∙ ap (λ b. b && rest) (sym c.is_floatless.ensures ∙ c.if-not-is_floatless.false)
