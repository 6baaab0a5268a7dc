use Rattle.std.proofs.Common.{◌≡◌, map}
use Rattle.ast_types.specs.Reading.{function_of}
use Rattle.ast_same.specs.Alike.{alike_functions}
use Rattle.ast_same.proofs.scripts.alike_functions.Given as goal

abbrev pub invariant-loop-function : goal.invariant-loop-function
invariant-loop-function l = alike_functions (map function_of l.function-iterator) (map function_of l.rest) ≡ alike_functions (map function_of l.initial.function-iterator) (map function_of l.initial.rest)
