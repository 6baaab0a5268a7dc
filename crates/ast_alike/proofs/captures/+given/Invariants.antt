use Rattle.std.proofs.Common.{◌≡◌, drop}
use Rattle.theory_spelling.specs.Captures.{are_given, have_given}
use Rattle.ast_types.specs.Reading.{exprs_of, pairs_of}
use Rattle.ast_alike.proofs.captures.+given.Given as goal

abbrev pub invariant-are_given-loop-expr : goal.invariant-are_given-loop-expr
invariant-are_given-loop-expr l = are_given (exprs_of l.exprs) ≡ are_given (exprs_of (drop l.expr-index l.exprs))

abbrev pub invariant-have_given-loop-pair : goal.invariant-have_given-loop-pair
invariant-have_given-loop-pair l = have_given (pairs_of l.pairs) ≡ have_given (pairs_of (drop l.pair-index l.pairs))
