use Rattle.std.proofs.Common.{◌≡◌, drop, map}
use Rattle.std.specs.Rc.{rc_value}
use Rattle.theory_grammar.specs.Covered.{functions_are_covered}
use Rattle.ast_types.specs.Reading.{function_of}
use Rattle.syntax_grammar.proofs.covered.are_functions_covered.Given as goal

abbrev pub invariant-loop-function : goal.invariant-loop-function
invariant-loop-function l = functions_are_covered (map function_of (map rc_value l.functions)) ≡ functions_are_covered (map function_of (map rc_value (drop l.function-index l.functions)))
