use Rattle.std.proofs.Common.{◌&&◌, ◌+◌, drop, sym, ap, ◌∙◌}
use Rattle.base_tokens.specs.declared.ident.Ident.{Ident}
use Rattle.ast_types.specs.declared.expr.Expr.{Expr}
use Rattle.theory_grammar.specs.Covered.{is_covered, pairs_are_covered}
use Rattle.ast_types.specs.Reading.{expr_of, pairs_of}
use Rattle.ast_types.proofs.ItemLists.{pairs_of-drop}
use Rattle.syntax_grammar.proofs.covered.+covered.Goals as goal

pub pairs_are_covered-loop-member-preserved : goal.pairs_are_covered-loop-member-preserved
pairs_are_covered-loop-member-preserved t c =
    let rest = pairs_are_covered (pairs_of (drop (c.loop-member.member-index + 1) c.args.pairs.now)) in
    c.loop-member.invariant
    ∙ ap pairs_are_covered (pairs_of-drop c.args.pairs.now c.loop-member.member-index c.member-item.result c.loop-member-test.true)
    ∙ ap (λ (m : Ident × Expr). is_covered (expr_of m.1) && rest) (sym c.member-item.is)
    ∙ ap (λ b. b && rest) (sym c.is_covered.ensures ∙ c.if-not-is_covered.false)
