use Rattle.std.proofs.Common.{◌≡◌, map}
use Rattle.rhai_ast.specs.PlainWalk.{plain_walk}
use Rattle.theory_meaning.specs.Walk.{over_functions}
use Rattle.ast_types.specs.Reading.{function_of}
use Rattle.rhai_script.proofs.check.are_plain.Given as goal

-- those that are left decide
abbrev pub invariant-loop-function : goal.invariant-loop-function
invariant-loop-function l = over_functions plain_walk (map function_of l.lib.functions) ≡ over_functions plain_walk (map function_of l.function-iterator)
