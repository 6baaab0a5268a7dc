use Rattle.std.proofs.Common.{◌≡◌, drop}
use Rattle.ast_types.specs.Reading.{arms_of, exprs_of, pairs_of, stmts_of}
use Rattle.ast_same.specs.Alike.{alike_arms, alike_exprs, alike_pairs, alike_stmts}
use Rattle.ast_same.proofs.nodes.+nodes.Given as goal

-- what is left of both decides
abbrev pub invariant-alike_exprs-loop-expr : goal.invariant-alike_exprs-loop-expr
invariant-alike_exprs-loop-expr l = alike_exprs (exprs_of (drop l.expr-index l.first)) (exprs_of l.rest) ≡ alike_exprs (exprs_of l.first) (exprs_of l.second)

abbrev pub invariant-alike_stmts-loop-statement : goal.invariant-alike_stmts-loop-statement
invariant-alike_stmts-loop-statement l = alike_stmts (stmts_of (drop l.statement-index l.first)) (stmts_of l.rest) ≡ alike_stmts (stmts_of l.first) (stmts_of l.second)

abbrev pub invariant-alike_pairs-loop-pair : goal.invariant-alike_pairs-loop-pair
invariant-alike_pairs-loop-pair l = alike_pairs (pairs_of (drop l.pair-index l.first)) (pairs_of l.rest) ≡ alike_pairs (pairs_of l.first) (pairs_of l.second)

abbrev pub invariant-alike_arms-loop-arm : goal.invariant-alike_arms-loop-arm
invariant-alike_arms-loop-arm l = alike_arms (arms_of (drop l.arm-index l.first)) (arms_of l.rest) ≡ alike_arms (arms_of l.first) (arms_of l.second)
