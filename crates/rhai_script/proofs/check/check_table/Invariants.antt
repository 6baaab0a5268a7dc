use Rattle.std.proofs.Common.{◌≡◌, map}
use Rattle.base_tokens.specs.declared.position.Position.{Position}
use Rattle.rhai_ast.specs.StandingFaults.{StandsInFunctions}
use Rattle.theory_meaning.specs.Faults.{TreeFault, functions_fault}
use Rattle.ast_types.specs.Reading.{function_of}
use Rattle.rhai_script.proofs.check.check_table.Given as goal

-- those that are left decide
abbrev pub invariant-loop-function : goal.invariant-loop-function
invariant-loop-function l = record {
  so_far : functions_fault (map function_of l.lib.functions) ≡ functions_fault (map function_of l.function-iterator);
  stands : (f : TreeFault) (p : Position) → StandsInFunctions l.function-iterator f p → StandsInFunctions l.lib.functions f p;
}
