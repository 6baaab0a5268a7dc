use Rattle.std.proofs.Common.{◌≡◌, ◌++◌, map, string_bytes}
use Rattle.ast_types.specs.Reading.{function_of}
use Rattle.notation_print.specs.Notation.{functions_text}
use Rattle.notation_print.proofs.scripts.write_script.Given as goal

abbrev pub invariant-loop-function : goal.invariant-loop-function
invariant-loop-function l =
    string_bytes l.text ++ functions_text (map function_of l.function-iterator) ≡ string_bytes l.initial.text ++ functions_text (map function_of l.initial.function-iterator)
