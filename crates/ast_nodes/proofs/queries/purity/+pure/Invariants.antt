use Rattle.std.proofs.Common.{◌≡◌, drop, map}
use Rattle.theory_meaning.specs.Queries.{are_pure, are_pure_exprs, are_pure_pairs, arm_purities, listed_arms_are_pure}
use Rattle.theory_meaning.specs.Walk.{arms_of_cases, arms_of_ranges}
use Rattle.ast_types.specs.Reading.{arms_of, case_of, exprs_of, pairs_of, range_of, stmts_of}
use Rattle.ast_nodes.proofs.queries.purity.+pure.Given as goal

abbrev pub invariant-are_pure_exprs-loop-expr : goal.invariant-are_pure_exprs-loop-expr
invariant-are_pure_exprs-loop-expr l = are_pure_exprs (exprs_of l.exprs) ≡ are_pure_exprs (exprs_of (drop l.expr-index l.exprs))

abbrev pub invariant-are_pure_members-loop-member : goal.invariant-are_pure_members-loop-member
invariant-are_pure_members-loop-member l = are_pure_pairs (pairs_of l.members) ≡ are_pure_pairs (pairs_of (drop l.member-index l.members))

abbrev pub invariant-are_pure-loop-stmt : goal.invariant-are_pure-loop-stmt
invariant-are_pure-loop-stmt l = are_pure (stmts_of l.statements) ≡ are_pure (stmts_of (drop l.stmt-index l.statements))

abbrev pub invariant-are_pure_cases-loop-case : goal.invariant-are_pure_cases-loop-case
invariant-are_pure_cases-loop-case l = listed_arms_are_pure (arm_purities (arms_of l.arms)) (arms_of_cases (map case_of l.cases)) ≡ listed_arms_are_pure (arm_purities (arms_of l.arms)) (arms_of_cases (map case_of l.case-iterator))

abbrev pub invariant-are_pure_ranges-loop-range : goal.invariant-are_pure_ranges-loop-range
invariant-are_pure_ranges-loop-range l = listed_arms_are_pure (arm_purities (arms_of l.arms)) (arms_of_ranges (map range_of l.ranges)) ≡ listed_arms_are_pure (arm_purities (arms_of l.arms)) (arms_of_ranges (map range_of (drop l.range-index l.ranges)))

abbrev pub invariant-are_pure_arms-loop-place : goal.invariant-are_pure_arms-loop-place
invariant-are_pure_arms-loop-place l = listed_arms_are_pure (arm_purities (arms_of l.arms)) l.places ≡ listed_arms_are_pure (arm_purities (arms_of l.arms)) (drop l.place-index l.places)
