-- What a filter of functions is asked.
use Rattle.std.specs.Prelude.{◌≡◌, ℕ, Bool, true, List, length}
use Rattle.std.specs.Borrow.{Bor}
use Rattle.std.specs.Fn.{Shared}
use Rattle.ast_types.specs.declared.script_fn.FnAccess.{FnAccess}
use Rattle.ast_types.specs.declared.script_fn.ScriptFuncDef.{ScriptFuncDef}
use Rattle.ast_types.specs.declared.script_fn.FnNamespace.{FnNamespace}
use Rattle.ast_types.specs.declared.script_fn.FnNamespace.TheVariants.{Internal}

-- asked of a function of a script (internal, of a script, its access, its name, how many parameters it has), the filter may answer b; it stays as it is
pub record Answers {F : Type 0} (g : Shared F (FnNamespace × (FnAccess × (Bool × (Bor (List ℕ) × (ℕ × Unit {0}))))) Bool) (f : F) (function : ScriptFuncDef) (b : Bool) (left : F) : Type 0 where
  pub name : Bor (List ℕ)
  pub shows : name.now ≡ function.name
  pub says : g.post f (Internal, (function.access, (true, (name, (length function.params, tt))))) b
  pub same : left ≡ f

-- the same of a filter that is not told that the function is of a script
pub record AnswersShort {F : Type 0} (g : Shared F (FnNamespace × (FnAccess × (Bor (List ℕ) × (ℕ × Unit {0})))) Bool) (f : F) (function : ScriptFuncDef) (b : Bool) (left : F) : Type 0 where
  pub name : Bor (List ℕ)
  pub shows : name.now ≡ function.name
  pub says : g.post f (Internal, (function.access, (name, (length function.params, tt)))) b
  pub same : left ≡ f
