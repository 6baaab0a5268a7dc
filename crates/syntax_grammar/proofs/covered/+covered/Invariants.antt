use Rattle.std.proofs.Common.{◌≡◌, drop}
use Rattle.theory_grammar.specs.Covered.{are_covered, pairs_are_covered}
use Rattle.ast_types.specs.Reading.{exprs_of, pairs_of}
use Rattle.syntax_grammar.proofs.covered.+covered.Given as goal

abbrev pub invariant-are_covered-loop-expr : goal.invariant-are_covered-loop-expr
invariant-are_covered-loop-expr l = are_covered (exprs_of l.exprs) ≡ are_covered (exprs_of (drop l.expr-index l.exprs))

abbrev pub invariant-pairs_are_covered-loop-member : goal.invariant-pairs_are_covered-loop-member
invariant-pairs_are_covered-loop-member l = pairs_are_covered (pairs_of l.pairs) ≡ pairs_are_covered (pairs_of (drop l.member-index l.pairs))
