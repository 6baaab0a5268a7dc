use Rattle.std.proofs.Common.{◌≡◌, map, take}
use Rattle.ast_types.specs.Reading.{expr_of, stmt_of}
use Rattle.ast_alike.proofs.Lists.{bare_item, bare_line, bare_named, bare_sides, named_item, sides_item}
use Rattle.ast_alike.proofs.nodes.+bare.Given as goal

abbrev pub invariant-bare_exprs-loop-expr : goal.invariant-bare_exprs-loop-expr
invariant-bare_exprs-loop-expr l = map expr_of l.copies ≡ map bare_item (take l.expr-index l.exprs)

abbrev pub invariant-bare_pairs-loop-pair : goal.invariant-bare_pairs-loop-pair
invariant-bare_pairs-loop-pair l = map named_item l.copies ≡ map bare_named (take l.pair-index l.pairs)

abbrev pub invariant-bare_lines-loop-stmt : goal.invariant-bare_lines-loop-stmt
invariant-bare_lines-loop-stmt l = map stmt_of l.copies ≡ map bare_line (take l.stmt-index l.stmts)

abbrev pub invariant-bare_arms-loop-arm : goal.invariant-bare_arms-loop-arm
invariant-bare_arms-loop-arm l = map sides_item l.copies ≡ map bare_sides (take l.arm-index l.arms)
