use Rattle.std.proofs.Common.{◌≡◌, List}
use Rattle.ast_types.specs.declared.script_fn.ScriptFuncDef.{ScriptFuncDef}
use Rattle.rhai_script.specs.Renamed.{AreNamesOf, clash}
use Rattle.rhai_script.proofs.apart.clash.Given as goal

abbrev pub invariant-loop-function : goal.invariant-loop-function
invariant-loop-function l = (fs : List ScriptFuncDef) → AreNamesOf fs l.names → clash l.marks fs l.second.functions ≡ clash l.marks fs l.function-iterator
