-- Functions as they are listed, and as a walk over their bodies reads them.
use Rattle.std.proofs.Common.{◌≡◌, List, [], ◌∷◌, map, refl, ap}
use Rattle.std.specs.Rc.{rc_value}
use Rattle.std.specs.declared.alloc.Global.{Global}
use Rattle.std.specs.declared.rc.Rc.{Rc}
use Rattle.ast_types.specs.declared.script_fn.ScriptFuncDef.{ScriptFuncDef}
use Rattle.theory_meaning.specs.Tree.{Function}
use Rattle.ast_types.specs.Reading.{function_of}

pub listed : (fs : List (Rc ScriptFuncDef Global)) → map function_of (map rc_value fs) ≡ map (λ f. function_of f.value) fs
listed [] = refl
listed (f ∷ fs) = ap (λ (gs : List Function). function_of f.value ∷ gs) (listed fs)
