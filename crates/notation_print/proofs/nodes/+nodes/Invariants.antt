use Rattle.std.proofs.Common.{◌≡◌, [], ◌++◌, drop, string_bytes}
use denote.Text.{Utf8}
use denote.Shadow.{shadow}
use Rattle.ast_types.specs.Reading.{arms_of, exprs_of, pairs_of, stmts_of}
use Rattle.notation_print.specs.Nodes.{arms_text, exprs_text, pairs_text, stmts_text}
use Rattle.notation_print.proofs.nodes.+nodes.Given as goal

abbrev pub invariant-push_exprs-loop-expr : goal.invariant-push_exprs-loop-expr
invariant-push_exprs-loop-expr l =
    shadow (Utf8 l.before) × (string_bytes l.text ++ exprs_text l.before (exprs_of (drop l.expr-index l.exprs)) ≡ string_bytes l.initial.text ++ exprs_text [] (exprs_of l.exprs))

abbrev pub invariant-push_pairs-loop-pair : goal.invariant-push_pairs-loop-pair
invariant-push_pairs-loop-pair l =
    shadow (Utf8 l.before) × (string_bytes l.text ++ pairs_text l.before (pairs_of (drop l.pair-index l.pairs)) ≡ string_bytes l.initial.text ++ pairs_text [] (pairs_of l.pairs))

abbrev pub invariant-push_arms-loop-arm : goal.invariant-push_arms-loop-arm
invariant-push_arms-loop-arm l =
    shadow (Utf8 l.before) × (string_bytes l.text ++ arms_text l.before (arms_of (drop l.arm-index l.arms)) ≡ string_bytes l.initial.text ++ arms_text [] (arms_of l.arms))

abbrev pub invariant-push_stmts-loop-statement : goal.invariant-push_stmts-loop-statement
invariant-push_stmts-loop-statement l =
    shadow (Utf8 l.before) × (string_bytes l.text ++ stmts_text l.before (stmts_of (drop l.statement-index l.statements)) ≡ string_bytes l.initial.text ++ stmts_text [] (stmts_of l.statements))
