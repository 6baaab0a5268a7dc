use Rattle.std.proofs.Common.{map}
use Rattle.script_names.specs.Names.{stands}
use Rattle.theory_naming.specs.Alike.{AreCovered}
use Rattle.theory_spelling.specs.Bare.{bare_function}
use Rattle.ast_types.specs.Reading.{function_of}
use Rattle.ast_alike.specs.Scripts.{bare_table}
use Rattle.ast_alike.proofs.scripts.are_covered.Given as goal

-- where those that are left are covered, all are
abbrev pub invariant-loop-function : goal.invariant-loop-function
invariant-loop-function l =
    AreCovered (stands l.names) (bare_table l.first) (map bare_function (map function_of l.function-iterator))
    → AreCovered (stands l.names) (bare_table l.first) (map bare_function (map function_of l.initial.function-iterator))
