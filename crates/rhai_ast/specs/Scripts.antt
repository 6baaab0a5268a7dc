-- The script of lists of statements and functions.
use Rattle.std.specs.Prelude.{Bool, List, map, Option}
use Rattle.std.specs.declared.alloc.Global.{Global}
use Rattle.std.specs.declared.rc.Rc.{Rc}
use Rattle.ast_types.specs.declared.stmt.Stmt.{Stmt}
use Rattle.ast_types.specs.declared.script_fn.ScriptFuncDef.{ScriptFuncDef}
use Rattle.theory_meaning.specs.Faults.{TreeFault, finding}
use Rattle.theory_meaning.specs.Tree.{Function, Script}
use Rattle.theory_meaning.specs.Walk.{over_stmts, whole}
use Rattle.ast_types.specs.Reading.{function_of, stmts_of}

abbrev pub functions_of : List (Rc ScriptFuncDef Global) → List Function
functions_of fs = map (λ f. function_of f.value) fs

abbrev pub script_by : List Stmt → List (Rc ScriptFuncDef Global) → Script
script_by ss fs = record { statements = stmts_of ss; functions = functions_of fs }

-- the first fault of statements, in a loop or not
abbrev pub found_stmts : List Stmt → Bool → Option TreeFault
found_stmts ss in_loop = over_stmts finding (stmts_of ss) (whole in_loop)
