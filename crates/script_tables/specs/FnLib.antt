-- The functions that a table holds, as trees.
use Rattle.std.specs.Prelude.{List, map}
use Rattle.theory_meaning.specs.Tree.{Function}
use Rattle.ast_types.specs.Reading.{function_of}
use Rattle.script_tables.specs.declared.fn_lib.FnLib.{FnLib}

abbrev pub functions_of : FnLib → List Function
functions_of lib = map function_of lib.functions
