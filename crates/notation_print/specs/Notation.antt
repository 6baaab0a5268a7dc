-- How a script is printed.
use Rattle.std.specs.Prelude.{List, [], ◌∷◌, ◌++◌, Option, Some, None, codes}
use Rattle.rhai_base.specs.Value.{Text}
use Rattle.theory_meaning.specs.Tree.{Stmts, no_stmts, stmt, Function, Script}
use Rattle.notation_print.specs.Nodes.{block_text, names_text, stmt_text}

-- a statement a line
abbrev pub lines_text : Stmts → Text
lines_text no_stmts = []
lines_text (stmt s ss) = stmt_text s ++ codes "\n" ++ lines_text ss

abbrev pub receiver_text : Option Text → Text
receiver_text None = []
receiver_text (Some t) = t ++ codes "."

abbrev pub function_text : Function → Text
function_text f = codes "fn " ++ receiver_text f.this_type ++ f.name ++ codes "(" ++ names_text [] f.params ++ codes ") " ++ block_text f.body

-- a function a line
abbrev pub functions_text : List Function → Text
functions_text [] = []
functions_text (f ∷ fs) = function_text f ++ codes "\n" ++ functions_text fs

abbrev pub script_text : Script → Text
script_text s = lines_text s.statements ++ functions_text s.functions
