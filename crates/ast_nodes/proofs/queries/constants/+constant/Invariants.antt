use Rattle.std.proofs.Common.{◌≡◌, drop, is_some}
use Rattle.theory_meaning.specs.Constants.{are_constant, constant_entries}
use Rattle.ast_types.specs.Reading.{exprs_of, pairs_of}
use Rattle.ast_nodes.proofs.queries.constants.+constant.Given as goal

abbrev pub invariant-are_constant-loop-expr : goal.invariant-are_constant-loop-expr
invariant-are_constant-loop-expr l = are_constant (exprs_of l.exprs) ≡ are_constant (exprs_of (drop l.expr-index l.exprs))

abbrev pub invariant-are_constant_members-loop-member : goal.invariant-are_constant_members-loop-member
invariant-are_constant_members-loop-member l = is_some (constant_entries (pairs_of l.members)) ≡ is_some (constant_entries (pairs_of (drop l.member-index l.members)))
