use Rattle.std.proofs.Common.{◌≡◌, ◌++◌, drop, string_bytes}
use Rattle.ast_types.specs.Reading.{stmts_of}
use Rattle.notation_print.specs.Notation.{lines_text}
use Rattle.notation_print.proofs.scripts.write_lines.Given as goal

abbrev pub invariant-loop-line : goal.invariant-loop-line
invariant-loop-line l =
    string_bytes l.text ++ lines_text (stmts_of (drop l.line-index l.statements)) ≡ string_bytes l.initial.text ++ lines_text (stmts_of l.statements)
