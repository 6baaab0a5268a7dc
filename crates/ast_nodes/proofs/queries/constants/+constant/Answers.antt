use Rattle.std.proofs.Common.{◌&&◌, ◌+◌, drop, sym, ap, ◌∙◌}
use Rattle.base_tokens.specs.declared.ident.Ident.{Ident}
use Rattle.ast_types.specs.declared.expr.Expr.{Expr}
use Rattle.theory_meaning.specs.Constants.{is_constant}
use Rattle.ast_types.specs.Reading.{expr_of}
use Rattle.ast_nodes.proofs.ConstantLists.{members_constant, members-drop}
use Rattle.ast_nodes.proofs.queries.constants.+constant.Goals as goal

pub are_constant_members-loop-member-preserved : goal.are_constant_members-loop-member-preserved
are_constant_members-loop-member-preserved t c =
    let rest = members_constant (drop (c.loop-member.member-index + 1) c.args.members.now) in
    c.loop-member.invariant
    ∙ members-drop c.args.members.now c.loop-member.member-index c.member-item.result c.loop-member-test.true
    ∙ ap (λ (m : Ident × Expr). is_constant (expr_of m.1) && rest) (sym c.member-item.is)
    ∙ ap (λ b. b && rest) (sym c.is_constant.ensures ∙ c.if-not-is_constant.false)

pub are_constant_members-returns-then-not-is_constant : goal.are_constant_members-returns-then-not-is_constant
are_constant_members-returns-then-not-is_constant t c =
    let rest = members_constant (drop (c.loop-member.member-index + 1) c.args.members.now) in
    let all =
    c.loop-member.invariant
    ∙ members-drop c.args.members.now c.loop-member.member-index c.member-item.result c.loop-member-test.true
    ∙ ap (λ (m : Ident × Expr). is_constant (expr_of m.1) && rest) (sym c.member-item.is)
    ∙ ap (λ b. b && rest) (sym c.is_constant.ensures ∙ c.if-not-is_constant.true) in
    sym all
