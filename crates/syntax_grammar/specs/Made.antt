-- The script of statements and functions.
use Rattle.std.specs.Prelude.{List, map}
use Rattle.std.specs.Rc.{rc_value}
use Rattle.std.specs.declared.rc.Rc.{Rc}
use Rattle.std.specs.declared.alloc.Global.{Global}
use Rattle.ast_types.specs.declared.script_fn.ScriptFuncDef.{ScriptFuncDef}
use Rattle.ast_types.specs.declared.stmt.Stmt as declared_stmt
use Rattle.ast_types.specs.Reading.{function_of, stmts_of}
use Rattle.theory_meaning.specs.Tree.{Script}

abbrev pub script_made : List declared_stmt.Stmt → List (Rc ScriptFuncDef Global) → Script
script_made ss fs = record { statements = stmts_of ss; functions = map function_of (map rc_value fs) }
