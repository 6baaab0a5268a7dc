use Rattle.std.proofs.Common.{◌≡◌, drop}
use Rattle.base_tokens.specs.declared.position.Position.{Position}
use Rattle.theory_meaning.specs.Faults.{TreeFault}
use Rattle.rhai_ast.specs.StandingFaults.{StandsInFunctions, defs_of}
use Rattle.rhai_ast.proofs.FoundLists.{found_functions}
use Rattle.rhai_ast.proofs.faults.check.check_functions.Given as goal

abbrev pub invariant-loop-function : goal.invariant-loop-function
invariant-loop-function l = record {
  so_far : found_functions l.functions ≡ found_functions (drop l.function-index l.functions);
  stands : (f : TreeFault) (p : Position) → StandsInFunctions (defs_of (drop l.function-index l.functions)) f p → StandsInFunctions (defs_of l.functions) f p;
}
