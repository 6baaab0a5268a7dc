use Rattle.std.proofs.Common.{◌≡◌, drop}
use Rattle.theory_meaning.specs.Constants.{are_floatless, pairs_are_floatless}
use Rattle.ast_types.specs.Reading.{exprs_of, pairs_of}
use Rattle.ast_nodes.proofs.queries.floatless.+floatless.Given as goal

abbrev pub invariant-are_floatless-loop-expr : goal.invariant-are_floatless-loop-expr
invariant-are_floatless-loop-expr l = are_floatless (exprs_of l.exprs) ≡ are_floatless (exprs_of (drop l.expr-index l.exprs))

abbrev pub invariant-are_floatless_members-loop-member : goal.invariant-are_floatless_members-loop-member
invariant-are_floatless_members-loop-member l = pairs_are_floatless (pairs_of l.members) ≡ pairs_are_floatless (pairs_of (drop l.member-index l.members))
