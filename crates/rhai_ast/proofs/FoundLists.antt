-- The first fault of functions, item by item, for a loop.
use Rattle.std.proofs.Common.{◌≡◌, ℕ, ◌+◌, ◌<◌, not, List, Option, None, length, get_or, drop, add-one, refl, ap}
use Rattle.std.proofs.Math.Seq.{drop-cons, drop-length}
use Rattle.std.specs.declared.alloc.Global.{Global}
use Rattle.std.specs.declared.rc.Rc.{Rc}
use Rattle.ast_types.specs.declared.script_fn.ScriptFuncDef.{ScriptFuncDef}
use Rattle.theory_meaning.specs.Faults.{TreeFault, ReservedName, finding, functions_fault, is_reserved, unless, ◌then◌}
use Rattle.theory_meaning.specs.Walk.{outermost, over_stmts}
use Rattle.ast_types.specs.Reading.{stmts_of}
use Rattle.rhai_ast.specs.Scripts.{functions_of}

abbrev pub found_functions : List (Rc ScriptFuncDef Global) → Option TreeFault
found_functions fs = functions_fault (functions_of fs)

pub functions_found-drop : (fs : List (Rc ScriptFuncDef Global)) (i : ℕ) (d : Rc ScriptFuncDef Global) → i < length fs → found_functions (drop i fs) ≡ unless (not (is_reserved (get_or fs i d).value.name)) ReservedName then (over_stmts finding (stmts_of (get_or fs i d).value.body.block) outermost then found_functions (drop (i + 1) fs))
functions_found-drop fs i d h = rw (add-one, drop-cons fs i d) refl

pub functions_found-end : (fs : List (Rc ScriptFuncDef Global)) → found_functions (drop (length fs) fs) ≡ None
functions_found-end fs = ap found_functions (drop-length fs)

pub ruleset found = (functions_found-drop, functions_found-end)
