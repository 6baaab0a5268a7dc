-- The script that an `AST` stands for.
use Rattle.theory_meaning.specs.Tree.{Script}
use Rattle.ast_types.specs.Reading.{stmts_of}
use Rattle.script_tables.specs.FnLib.{functions_of}
use Rattle.rhai_script.specs.declared.ast.AST.{AST}

abbrev pub script_of : AST → Script
script_of s = record { statements = stmts_of s.body.block; functions = functions_of s.lib.value }
