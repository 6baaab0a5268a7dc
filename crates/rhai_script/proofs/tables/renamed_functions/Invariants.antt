use Rattle.std.proofs.Common.{◌≡◌, ◌++◌, List, map}
use Rattle.std.specs.Rc.{rc_value}
use Rattle.ast_types.specs.declared.script_fn.ScriptFuncDef.{ScriptFuncDef}
use Rattle.script_names.specs.Functions.{AreRenamed}
use Rattle.script_names.specs.Names.{stands}
use Rattle.rhai_script.proofs.tables.renamed_functions.Given as goal

abbrev pub invariant-loop-function : goal.invariant-loop-function
invariant-loop-function l =
    (done : List ScriptFuncDef) × (l.lib.functions ≡ done ++ l.function-iterator) × AreRenamed (stands l.names) done (map rc_value l.all.items)
