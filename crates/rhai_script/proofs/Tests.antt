-- What the tests of a tree say of a script and of the functions of its table.
use Rattle.std.proofs.Common.{◌≡◌, Bool, true, false, ◌&&◌, List, [], ◌∷◌, map, Option, None, Some, refl, sym, ap, ◌∙◌}
use Rattle.base_tokens.specs.declared.position.Position.{Position}
use Rattle.ast_types.specs.declared.script_fn.ScriptFuncDef.{ScriptFuncDef}
use Rattle.theory_meaning.specs.Faults.{ReservedName, TreeFault, finding, functions_fault, is_reserved, unless, ◌then◌}
use Rattle.theory_meaning.specs.Walk.{outermost, over_stmts}
use Rattle.ast_types.specs.Reading.{function_of, stmts_of}
use Rattle.rhai_ast.specs.StandingFaults.{StandsInFunctions, by_name, in_body, in_others}

-- a test that failed without functions fails with them
pub fails_with : (a b r : Bool) → r ≡ (a && true) → r ≡ false → r ≡ (a && b)
fails_with true b r h k = absurd (let z : true ≡ false = sym h ∙ k in cc)
fails_with false b r h k = h

single_then : (a b r : Option TreeFault) → a then (b then r) ≡ (a then (b then None)) then r
single_then (Some f) b r = refl
single_then None (Some f) r = refl
single_then None None r = refl

-- the first fault of a function, before those after it
pub first_of : (d : ScriptFuncDef) (ds : List ScriptFuncDef) → functions_fault (map function_of (d ∷ ds)) ≡ functions_fault (function_of d ∷ []) then functions_fault (map function_of ds)
first_of d ds = single_then _ (over_stmts finding (stmts_of d.body.block) outermost) (functions_fault (map function_of ds))

-- where the fault of a function alone stands
pub stands_alone : {d : ScriptFuncDef} (ds : List ScriptFuncDef) {f : TreeFault} {p : Position} → StandsInFunctions (d ∷ []) f p → StandsInFunctions (d ∷ ds) f p
stands_alone ds (by_name d os h) = by_name d ds h
stands_alone ds (in_body d os h k) = in_body d ds h k
stands_alone ds (in_others d os h k) = elim k [ ]
