-- What a function of a script says of itself.
use Rattle.std.specs.Prelude.{List, Option, map}
use Rattle.std.specs.Option.{option_copied}
use Rattle.rhai_base.specs.Value.{Text}
use Rattle.ast_types.specs.declared.script_fn.FnAccess.{FnAccess}
use Rattle.ast_types.specs.declared.script_fn.ScriptFuncDef.{ScriptFuncDef}
use Rattle.script_queries.specs.declared.metadata.FnMetadataIter.{FnMetadataIter}
use Rattle.script_queries.specs.declared.metadata.ScriptFnMetadata.{ScriptFnMetadata}

pub record Description : Type 0 where
  pub name : Text
  pub params : List Text
  pub this_type : Option Text
  pub access : FnAccess
  pub comments : List Text

abbrev pub description_of : ScriptFuncDef → Description
description_of f = record { name = f.name; params = f.params; this_type = f.this_type; access = f.access; comments = f.comments }

-- what is lent of it
abbrev pub described : ScriptFnMetadata → Description
described m = record { name = m.name.now; params = m.params.now; this_type = option_copied m.this_type; access = m.access; comments = m.comments.now }

-- what an iterator is still to give
abbrev pub descriptions : FnMetadataIter → List Description
descriptions i = map description_of i.functions
