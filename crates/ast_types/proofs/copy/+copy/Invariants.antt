use Rattle.std.proofs.Common.{◌≡◌, take}
use Rattle.ast_types.proofs.copy.+copy.Given as goal

abbrev pub invariant-copy_exprs-loop-expr : goal.invariant-copy_exprs-loop-expr
invariant-copy_exprs-loop-expr l = l.copies ≡ take l.expr-index l.expr-items

abbrev pub invariant-copy_pairs-loop-pair : goal.invariant-copy_pairs-loop-pair
invariant-copy_pairs-loop-pair l = l.copies ≡ take l.pair-index l.pair-items

abbrev pub invariant-copy_stmts-loop-stmt : goal.invariant-copy_stmts-loop-stmt
invariant-copy_stmts-loop-stmt l = l.copies ≡ take l.stmt-index l.stmt-items

abbrev pub invariant-copy_arms-loop-arm : goal.invariant-copy_arms-loop-arm
invariant-copy_arms-loop-arm l = l.copies ≡ take l.arm-index l.arm-items
