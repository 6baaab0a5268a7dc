-- Two scripts and their closures.
use Rattle.std.specs.Prelude.{◌≡◌, true, false, List, map, Some}
use Rattle.rhai_base.specs.Value.{Text}
use Rattle.theory_meaning.specs.Act.{Key}
use Rattle.theory_meaning.specs.Tree.{Function}
use Rattle.theory_naming.specs.Alike.{function_at, is_unread, IsPaired}
use Rattle.theory_naming.specs.Renaming.{is_anonymous}
use Rattle.theory_spelling.specs.Bare.{bare_function}
use Rattle.script_names.specs.Names.{listed}
use Rattle.script_names.specs.declared.naming.Names.TheVariants.{Listed}
use Rattle.script_tables.specs.FnLib.{functions_of}
use Rattle.script_tables.specs.declared.fn_lib.FnLib.{FnLib}
use Rattle.ast_alike.specs.declared.closures.Closures.{Closures}

abbrev pub bare_table : FnLib → List Function
bare_table lib = map bare_function (functions_of lib)

-- names of two closures, of which the map gives back the first for the second
pub record IsPair (back : List (Text × Text)) (f x : Text) : Type 0 where
  pub old : is_anonymous f ≡ true
  pub new : is_anonymous x ≡ true
  pub read : is_unread x ≡ false
  pub from : listed back x ≡ Some f

pub record ArePairs (c : Closures) : Type 0 where
  pub names : List (Text × Text)
  pub names_are : c.names ≡ Listed names
  pub paired : IsPaired (listed names) (listed c.back)

-- there is a function of this key
abbrev pub HasKey : List Function → Key → Type 0
HasKey fs k = (f : Function) × (function_at fs k ≡ Some f)
