use Rattle.std.proofs.Common.{◌≡◌, map, take}
use Rattle.ast_types.specs.Reading.{expr_of, stmt_of}
use Rattle.script_names.specs.Names.{stands}
use Rattle.script_names.proofs.Lists.{named_item, new_item, new_line, new_named, new_sides, sides_item}
use Rattle.script_names.proofs.nodes.+renamed.Given as goal

abbrev pub invariant-renamed_list-loop-expr : goal.invariant-renamed_list-loop-expr
invariant-renamed_list-loop-expr l = map expr_of l.copies ≡ map (new_item (stands l.names)) (take l.expr-index l.exprs)

abbrev pub invariant-renamed_pairs-loop-pair : goal.invariant-renamed_pairs-loop-pair
invariant-renamed_pairs-loop-pair l = map named_item l.copies ≡ map (new_named (stands l.names)) (take l.pair-index l.pairs)

abbrev pub invariant-renamed_stmts-loop-stmt : goal.invariant-renamed_stmts-loop-stmt
invariant-renamed_stmts-loop-stmt l = map stmt_of l.copies ≡ map (new_line (stands l.names)) (take l.stmt-index l.stmts)

abbrev pub invariant-renamed_arms-loop-arm : goal.invariant-renamed_arms-loop-arm
invariant-renamed_arms-loop-arm l = map sides_item l.copies ≡ map (new_sides (stands l.names)) (take l.arm-index l.arms)
