-- Where the first fault of a tree stands.
use Rattle.std.specs.Prelude.{◌≡◌, true, false, List, [], ◌∷◌, map, Option, Some, None, Result, Ok, Err}
use Rattle.std.specs.declared.alloc.Global.{Global}
use Rattle.std.specs.declared.rc.Rc.{Rc}
use Rattle.std.specs.Rc.{rc_value}
use Rattle.base_tokens.specs.declared.position.Position.{Position}
use Rattle.ast_types.specs.declared.script_fn.ScriptFuncDef.{ScriptFuncDef}
use Rattle.ast_types.specs.declared.stmt.Stmt.{Stmt}
use Rattle.theory_meaning.specs.Faults.{TreeFault, ReservedName, fault_of, finding, functions_fault, is_reserved}
use Rattle.theory_meaning.specs.Walk.{Around, around_parts, outermost}
use Rattle.ast_types.specs.Reading.{function_of}
use Rattle.rhai_ast.specs.Children.{over_node}
use Rattle.rhai_ast.specs.Standing.{Standing, below, place_of, statements_standing, tree_of}
use Rattle.rhai_ast.specs.Places.{around_at}
use Rattle.rhai_ast.specs.Refusals.{meant}
use Rattle.rhai_ast.specs.Scripts.{found_stmts}
use Rattle.rhai_ast.specs.declared.faults.error.TreeError.{TreeError}

abbrev pub around_one : Standing → Around → Around
around_one s a = around_at s.spot a

-- among nodes one after another and all below them, with this around them, the first that has a fault has this one, and
-- stands there
pub data StandsAt : Around → List Standing → TreeFault → Position → Type 0 where
  -- the first of them has it itself
  here : {a : Around} {f : TreeFault} (s : Standing) (others : List Standing) → fault_of (around_one s a) (tree_of s.node) ≡ Some f → StandsAt a (s ∷ others) f (place_of s.node)
  -- the first of them has none itself, and one below it has
  deeper : {a : Around} {f : TreeFault} {p : Position} (s : Standing) (others : List Standing) → fault_of (around_one s a) (tree_of s.node) ≡ None → StandsAt (around_parts (tree_of s.node) (around_one s a)) (below s.node) f p → StandsAt a (s ∷ others) f p
  -- neither the first of them nor one below it has any
  later : {a : Around} {f : TreeFault} {p : Position} (s : Standing) (others : List Standing) → over_node finding (tree_of s.node) (around_one s a) ≡ None → StandsAt a others f p → StandsAt a (s ∷ others) f p

-- among functions in order: a name that is reserved stands where the braces of its body begin
pub data StandsInFunctions : List ScriptFuncDef → TreeFault → Position → Type 0 where
  by_name : (d : ScriptFuncDef) (others : List ScriptFuncDef) → is_reserved d.name ≡ true → StandsInFunctions (d ∷ others) ReservedName d.body.span.start
  in_body : {f : TreeFault} {p : Position} (d : ScriptFuncDef) (others : List ScriptFuncDef) → is_reserved d.name ≡ false → StandsAt outermost (statements_standing d.body.block) f p → StandsInFunctions (d ∷ others) f p
  in_others : {f : TreeFault} {p : Position} (d : ScriptFuncDef) (others : List ScriptFuncDef) → functions_fault (function_of d ∷ []) ≡ None → StandsInFunctions others f p → StandsInFunctions (d ∷ others) f p

-- in a script: among its statements, or where these have none among its functions
pub data StandsInScript (ss : List Stmt) (ds : List ScriptFuncDef) (f : TreeFault) (p : Position) : Type 0 where
  in_statements : StandsAt outermost (statements_standing ss) f p → StandsInScript ss ds f p
  in_functions : found_stmts ss false ≡ None → StandsInFunctions ds f p → StandsInScript ss ds f p

abbrev pub defs_of : List (Rc ScriptFuncDef Global) → List ScriptFuncDef
defs_of fs = map rc_value fs

-- ---- what a test answers

-- its fault
abbrev pub fault_in : {A : Type 0} → Result A TreeError → Result A TreeFault
fault_in (Ok x) = Ok x
fault_in (Err e) = Err e.fault

abbrev pub OnFault : Option TreeFault → (TreeFault → Type 0) → Type 0
OnFault None P = Unit {0}
OnFault (Some f) P = P f

-- its fault stands at its position; where memory was wanting, the position says nothing
abbrev pub Stands : {A : Type 0} → (TreeFault → Position → Type 0) → Result A TreeError → Type 0
Stands At (Ok x) = Unit {0}
Stands At (Err e) = OnFault (meant e.fault) (λ f. At f e.position)
