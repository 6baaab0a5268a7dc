-- What a script is: a source, a doc, a list of statements and a table of functions with an id; and what is made of two.
use Rattle.std.specs.Prelude.{List, [], ◌++◌, map, Option, None}
use Rattle.rhai_base.specs.Value.{Text}
use Rattle.ast_types.specs.declared.stmt.Stmt.{Stmt}
use Rattle.ast_types.specs.declared.script_fn.ScriptFuncDef.{ScriptFuncDef}
use Rattle.theory_meaning.specs.Tree.{Script}
use Rattle.ast_types.specs.Reading.{function_of, stmts_of}
use Rattle.rhai_script.specs.declared.ast.AST.{AST}
use Rattle.rhai_script.specs.declared.ast.AstParts.{AstParts}
use Rattle.script_tables.specs.declared.fn_lib.FnLib.{FnLib}
use Rattle.script_tables.specs.FnKey.{definition_key}
use Rattle.script_tables.specs.Table.{put_all_by}
use Rattle.script_tables.specs.Ids.{named, first_name}
use Rattle.script_tables.specs.Text.{join_docs}

pub record Contents : Type 0 where
  pub source : Option Text
  pub doc : Text
  pub statements : List Stmt
  pub id : Option Text
  pub functions : List ScriptFuncDef

abbrev pub contents : AST → Contents
contents s = record { source = s.source; doc = s.doc; statements = s.body.block; id = s.lib.value.id; functions = s.lib.value.functions }

abbrev pub parts_contents : AstParts → Contents
parts_contents p = record { source = p.source; doc = p.doc; statements = p.body.block; id = p.lib.value.id; functions = p.lib.value.functions }

-- the script that it stands for
abbrev pub meant : Contents → Script
meant s = record { statements = stmts_of s.statements; functions = map function_of s.functions }

-- the functions of the one, and these put in, each in turn
abbrev pub put_all : List ScriptFuncDef → List ScriptFuncDef → List ScriptFuncDef
put_all fs gs = put_all_by definition_key fs gs

-- source and id follow a name; an empty one is none
abbrev pub with_source : Text → Contents → Contents
with_source name s = record { source = named name; doc = s.doc; statements = s.statements; id = named name; functions = s.functions }

abbrev pub without_source : Contents → Contents
without_source s = record { source = None; doc = s.doc; statements = s.statements; id = s.id; functions = s.functions }

abbrev pub with_doc : Text → Contents → Contents
with_doc doc s = record { source = s.source; doc = doc; statements = s.statements; id = s.id; functions = s.functions }

abbrev pub without_statements : Contents → Contents
without_statements s = record { source = s.source; doc = s.doc; statements = []; id = s.id; functions = s.functions }

-- a table of its own, without an id
abbrev pub with_table : List ScriptFuncDef → Contents → Contents
with_table fs s = record { source = s.source; doc = s.doc; statements = s.statements; id = None; functions = fs }

-- of the first one's functions these alone
abbrev pub with_functions : List ScriptFuncDef → Contents → Contents
with_functions fs s = record { source = s.source; doc = s.doc; statements = s.statements; id = s.id; functions = fs }

-- a script in place of two, with these functions of the second: source and id are the second's, where it has a source
abbrev pub merged : Contents → Contents → List ScriptFuncDef → Contents
merged a b chosen = record {
  source = b.source;
  doc = join_docs a.doc b.doc;
  statements = a.statements ++ b.statements;
  id = first_name b.source a.id;
  functions = put_all a.functions chosen;
}

-- the first, with these functions of the second: source and id stay
abbrev pub combined : Contents → Contents → List ScriptFuncDef → Contents
combined a b chosen = record {
  source = a.source;
  doc = join_docs a.doc b.doc;
  statements = a.statements ++ b.statements;
  id = a.id;
  functions = put_all a.functions chosen;
}

-- two scripts joined, with this table and this source
abbrev pub joined_over : FnLib → Option Text → Contents → Contents → Contents
joined_over lib source a b = record {
  source = source;
  doc = join_docs a.doc b.doc;
  statements = a.statements ++ b.statements;
  id = lib.id;
  functions = lib.functions;
}
