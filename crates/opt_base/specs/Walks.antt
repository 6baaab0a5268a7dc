-- What is asked of nodes: whether a `break` has an expression, whether a statement exports, and whether a call captures.
use Rattle.std.specs.Prelude.{Bool, not, List, map}
use Rattle.std.specs.Rc.{rc_value}
use Rattle.std.specs.declared.alloc.Global.{Global}
use Rattle.std.specs.declared.rc.Rc.{Rc}
use Rattle.ast_types.specs.declared.script_fn.ScriptFuncDef as declared
use Rattle.ast_types.specs.declared.stmt.Stmt as written
use Rattle.ast_types.specs.Reading.{function_of, stmts_of}
use Rattle.theory_meaning.specs.Plain.{all_true}
use Rattle.theory_meaning.specs.Tree.{Stmt, Script}
use Rattle.theory_meaning.specs.Walk.{Node, Walk, OfStmt}
use Rattle.theory_rewriting.specs.Exports.{is_no_export}
use Rattle.theory_rewriting.specs.Scripts.{is_capturing}
use Rattle.theory_rewriting.specs.SurelyUnit.{carries_nothing}

abbrev pub unit_walk : Walk Bool
unit_walk = all_true carries_nothing

abbrev pub stmt_carries_nothing : Stmt → Bool
stmt_carries_nothing s = carries_nothing (OfStmt s)

abbrev pub stmt_is_no_export : Stmt → Bool
stmt_is_no_export s = is_no_export (OfStmt s)

abbrev pub is_apart : Node → Bool
is_apart n = not (is_capturing n)

abbrev pub capture_walk : Walk Bool
capture_walk = all_true is_apart

-- statements and functions as they are listed
abbrev pub listing : List written.Stmt → List (Rc declared.ScriptFuncDef Global) → Script
listing ss fs = record { statements = stmts_of ss; functions = map function_of (map rc_value fs) }
