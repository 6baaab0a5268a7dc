-- What a run does not see of scripts: docs, comments, and who may call a function.
use Rattle.std.specs.Prelude.{◌≡◌, false, List, [], ◌∷◌, Some}
use Rattle.theory_naming.specs.Renaming.{is_anonymous}
use Rattle.ast_types.specs.declared.script_fn.ScriptFuncDef.{ScriptFuncDef}
use Rattle.rhai_script.specs.Contents.{Contents}
use Rattle.script_tables.specs.FnKey.{definition_key}
use Rattle.script_tables.specs.Table.{find_by}

-- the function of its key, with its access and its comments
pub record IsDressed (fs : List ScriptFuncDef) (f : ScriptFuncDef) : Type 0 where
  pub other : ScriptFuncDef
  pub found : find_by definition_key (definition_key f) fs ≡ Some other
  pub access : other.access ≡ f.access
  pub comments : other.comments ≡ f.comments

-- of each that has a name of its own
abbrev pub AreDressed : List ScriptFuncDef → List ScriptFuncDef → Type 0
AreDressed fs [] = Unit {0}
AreDressed fs (g ∷ gs) = (is_anonymous g.name ≡ false → IsDressed fs g) × AreDressed fs gs

-- The second has the doc of the first, and the functions of the first with their access and comments.
pub record DressedAlike (b c : Contents) : Type 0 where
  pub doc : c.doc ≡ b.doc
  pub functions : AreDressed c.functions b.functions
