use Rattle.std.proofs.Common.{map}
use Rattle.script_names.specs.Names.{stands}
use Rattle.theory_naming.specs.Alike.{AreWanted}
use Rattle.theory_spelling.specs.Bare.{bare_function}
use Rattle.ast_types.specs.Reading.{function_of}
use Rattle.ast_alike.specs.Scripts.{ArePairs, bare_table}
use Rattle.ast_alike.proofs.scripts.are_wanted.Given as goal

-- where those that are left are wanted, all are
abbrev pub invariant-loop-function : goal.invariant-loop-function
invariant-loop-function l =
    ArePairs l.closures
    → AreWanted (stands l.closures.names) (bare_table l.second) (map bare_function (map function_of l.function-iterator))
    → AreWanted (stands l.closures.names) (bare_table l.second) (map bare_function (map function_of l.initial.function-iterator))
