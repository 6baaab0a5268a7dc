-- The keys of a table's functions as they are written.
use Rattle.std.specs.Prelude.{◌≡◌, IsTrue, List, [], map, length}
use Rattle.std.specs.declared.rc.Rc.{Rc}
use Rattle.std.specs.declared.alloc.Global.{Global}
use Rattle.std.specs.Borrow.{Bor}
use Rattle.theory_meaning.specs.Act.{Key}
use Rattle.theory_meaning.specs.Calls.{key}
use Rattle.ast_types.specs.Reading.{function_of}
use Rattle.ast_types.specs.declared.script_fn.ScriptFuncDef.{ScriptFuncDef}
use Rattle.script_tables.specs.declared.fn_table.FnKey.{FnKey}
use Rattle.script_tables.specs.Table.{key_of, put_all_by, are_distinct}

-- what a key says
abbrev pub key_meant : FnKey → Key
key_meant k = key k.name k.params k.this_type

-- the key of a function as it is written
abbrev pub fn_key_of : ScriptFuncDef → FnKey
fn_key_of f = record { name = f.name; params = length f.params; this_type = f.this_type }

abbrev pub definition_key : ScriptFuncDef → Key
definition_key f = key_of (function_of f)

-- the table of these functions as they are written
abbrev pub definitions_table : List ScriptFuncDef → List ScriptFuncDef
definitions_table fs = put_all_by definition_key [] fs

-- the keys are those of the functions, each once
pub record IsTable (keys : List FnKey) (functions : List ScriptFuncDef) : Type 0 where
  pub keyed : keys ≡ map fn_key_of functions
  pub distinct : IsTrue (are_distinct (map key_of (map function_of functions)))

-- the function that an iterator lends
abbrev pub shown : Bor (Rc ScriptFuncDef Global) → ScriptFuncDef
shown f = f.now.value
