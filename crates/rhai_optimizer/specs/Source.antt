-- The script that is handed to the optimiser.
use Rattle.std.specs.Prelude.{List, map}
use Rattle.std.specs.Rc.{rc_value}
use Rattle.std.specs.declared.alloc.Global.{Global}
use Rattle.std.specs.declared.rc.Rc.{Rc}
use Rattle.ast_types.specs.declared.script_fn.ScriptFuncDef.{ScriptFuncDef}
use Rattle.ast_types.specs.declared.stmt.Stmt.{Stmt}
use Rattle.ast_types.specs.Reading.{stmts_of, function_of}
use Rattle.theory_meaning.specs.Tree.{Script}
use Rattle.script_tables.specs.Table.{table_of}

-- its statements, and the table of its functions
abbrev pub source_of : List Stmt → List (Rc ScriptFuncDef Global) → Script
source_of ss fs = record { statements = stmts_of ss; functions = table_of (map function_of (map rc_value fs)) }
