-- Functions whose bodies are optimised.
use Rattle.std.specs.Prelude.{◌≡◌, Bool, false, List, [], ◌∷◌, Option}
use Rattle.rhai_base.specs.Value.{Text}
use Rattle.theory_meaning.specs.Engine.{Engine}
use Rattle.ast_types.specs.Reading.{function_of, stmts_of}
use Rattle.theory_rewriting.specs.Context.{knowing}
use Rattle.theory_rewriting.specs.Finished.{IsFinished}
use Rattle.theory_rewriting.specs.Known.{Known}
use Rattle.theory_rewriting.specs.Scripts.{naming_all, FunctionTo}
use Rattle.theory_rewriting.specs.Steps.{IsReducedBody}
use Rattle.ast_types.specs.declared.script_fn.FnAccess.{FnAccess}
use Rattle.ast_types.specs.declared.script_fn.ScriptFuncDef.{ScriptFuncDef}

-- what a function says beside its body
pub record Header : Type 0 where
  pub name : Text
  pub this_type : Option Text
  pub access : FnAccess
  pub params : List Text
  pub comments : List Text

abbrev pub header_of : ScriptFuncDef → Header
header_of f = record { name = f.name; this_type = f.this_type; access = f.access; params = f.params; comments = f.comments }

-- its body is rewritten, under its parameters, until nothing is left to do
pub record FunctionRun (r : Engine) (ks : List Known) (f f' : ScriptFuncDef) : Type 0 where
  pub header : header_of f' ≡ header_of f
  pub to : FunctionTo (knowing r ks) (function_of f) (function_of f')
  pub reduced : IsReducedBody r (stmts_of f'.body.block)
  pub finished : IsFinished (naming_all f.params (knowing r ks)) (stmts_of f'.body.block)

-- in order
pub data FunctionsRun (r : Engine) (ks : List Known) : List ScriptFuncDef → List ScriptFuncDef → Type 0 where
  no_functions : FunctionsRun r ks [] []
  one_more : {f f' : ScriptFuncDef} {fs fs' : List ScriptFuncDef} → FunctionRun r ks f f' → FunctionsRun r ks fs fs' → FunctionsRun r ks (f ∷ fs) (f' ∷ fs')

-- where nothing changed the function may stay as it was
pub record BodyRun (r : Engine) (ks : List Known) (changed : Bool) (f f' : ScriptFuncDef) : Type 0 where
  pub run : FunctionRun r ks f f'
  pub kept : changed ≡ false → FunctionRun r ks f f
