-- Functions by other names.
use Rattle.std.specs.Prelude.{◌≡◌, List}
use Rattle.std.specs.List.{AllZip}
use Rattle.rhai_base.specs.Value.{Text}
use Rattle.ast_types.specs.Reading.{function_of}
use Rattle.ast_types.specs.declared.script_fn.ScriptFuncDef.{ScriptFuncDef}
use Rattle.theory_naming.specs.Renaming.{renamed_function}

-- the function by its new name; access and comment are kept
pub record IsRenamed (named : Text → Text) (f g : ScriptFuncDef) : Type 0 where
  pub function : function_of g ≡ renamed_function named (function_of f)
  pub access : g.access ≡ f.access
  pub comments : g.comments ≡ f.comments

-- each of them, in order
abbrev pub AreRenamed : (Text → Text) → List ScriptFuncDef → List ScriptFuncDef → Type 0
AreRenamed named fs gs = AllZip (IsRenamed named) fs gs
