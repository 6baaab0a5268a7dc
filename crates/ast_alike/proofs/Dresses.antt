-- A function that was found and has the access and the comments of another.
use Rattle.std.proofs.Common.{◌≡◌, Bool, false, List, Some, sym, subst}
use Rattle.std.specs.Prelude.{IsTrue}
use Rattle.theory_meaning.specs.Act.{Key}
use Rattle.theory_naming.specs.Renaming.{is_anonymous}
use Rattle.ast_types.specs.declared.script_fn.ScriptFuncDef.{ScriptFuncDef}
use Rattle.script_tables.specs.FnKey.{definition_key}
use Rattle.script_tables.specs.Table.{find_by}
use Rattle.ast_alike.specs.Dressed.{IsDressed}

pub dressed_one : (fs : List ScriptFuncDef) (k : Key) (own f : ScriptFuncDef) → Some own ≡ find_by definition_key k fs → k ≡ definition_key f → (b : Bool) → (IsTrue b → own.access ≡ f.access) → (IsTrue b → own.comments ≡ f.comments) → IsTrue b → is_anonymous f.name ≡ false → IsDressed fs f
dressed_one fs k own f found is b access comments t named = record {
  other = own;
  found = subst (λ l. find_by definition_key l fs ≡ Some own) is (sym found);
  access = access t;
  comments = comments t;
}
