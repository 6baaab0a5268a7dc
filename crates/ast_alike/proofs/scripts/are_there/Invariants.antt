use Rattle.std.proofs.Common.{map}
use Rattle.theory_naming.specs.Alike.{AreThere}
use Rattle.theory_spelling.specs.Bare.{bare_function}
use Rattle.ast_types.specs.Reading.{function_of}
use Rattle.ast_alike.specs.Scripts.{bare_table}
use Rattle.ast_alike.proofs.scripts.are_there.Given as goal

-- where those that are left are there, all are
abbrev pub invariant-loop-function : goal.invariant-loop-function
invariant-loop-function l =
    AreThere (bare_table l.first) (map bare_function (map function_of l.function-iterator))
    → AreThere (bare_table l.first) (map bare_function (map function_of l.initial.function-iterator))
