-- More runs, computed: entries at functions, pointers, hosts by rows, faults.
use Rattle.std.specs.Prelude.{◌≡◌, true, false, [], ◌∷◌, Some, None, negsuc, codes, refl}
use Rattle.rhai_base.specs.Value.{UnitV, CharV, TextV, ArrayV, MapV, values, field, no_fields}
use Rattle.theory_meaning.specs.Act.{WrongKind, NoPlace, UnboundThis, Answers, AnswersThrow}
use Rattle.rhai_base.specs.Operators.{Plus, UpTo}
use Rattle.theory_meaning.specs.Host.{host_of}
use Rattle.theory_meaning.specs.Tree.{NoToken, FnCall, Stmt, IntegerConstant, BoolConstant, UnitConstant, StringConstant, Variable, ThisPtr, Dot, Index, BlockExpr, Assignment, ExprStmt, While, BreakLoop, Do, no_expr, an_expr, no_stmts, stmts, exprs}
use Rattle.theory_meaning.specs.Run.{AtFunction, WithThrown, WithStuck, WithoutTurns}
use Rattle.worked_meaning.specs.Terms.{i, run, World, int, var, op, fn, let', array, at, dot, prop, meth, map_one, nothing_set, world_with, asked, var_is}
use Rattle.theory_meaning.specs.Calls.{key}
use Rattle.worked_meaning.specs.Runs.{ran_in, ran, report, gives, throws, fact, double}

-- ---- a function as entry

function_as_entry : run (world_with (fact ∷ [])) no_stmts (AtFunction (key (codes "fact") 1 None) None (i 5 ∷ [])) [] 5 ≡ report (gives (i 120)) [] [] 0
unfolding ran
function_as_entry = refl

method_as_entry : run (world_with (double ∷ [])) no_stmts (AtFunction (key (codes "double") 0 (Some (codes "array"))) (Some (ArrayV (values (i 3 ∷ [])))) []) [] 1
    ≡ record { ended = gives (i 6); variables = []; exports = []; this = Some (ArrayV (values (i 6 ∷ []))); calls = []; turns = 0 }
unfolding ran
method_as_entry = refl

-- ---- pointers

call_of_a_pointer : ran_in (world_with (fact ∷ [])) (ExprStmt (fn "call" (fn "Fn" (StringConstant (codes "fact") ∷ []) ∷ int 3 ∷ [])) ∷ []) 9 ≡ report (gives (i 6)) [] [] 6
unfolding ran
call_of_a_pointer = refl

curried_value : ran_in (world_with (fact ∷ [])) (ExprStmt (dot (fn "curry" (fn "Fn" (StringConstant (codes "fact") ∷ []) ∷ int 3 ∷ [])) (meth "call" [])) ∷ []) 9 ≡ report (gives (i 6)) [] [] 6
unfolding ran
curried_value = refl

reserved_name_is_no_pointer : ran (ExprStmt (fn "Fn" (StringConstant (codes "print") ∷ [])) ∷ []) 0 ≡ report (throws "function name") [] [] 0
unfolding ran
reserved_name_is_no_pointer = refl

type_of_a_range : ran (ExprStmt (dot (op UpTo (int 1 ∷ int 2 ∷ [])) (meth "type_of" [])) ∷ []) 0 ≡ report (gives (TextV (codes "range"))) [] [] 0
unfolding ran
type_of_a_range = refl

-- ---- a host by rows: the second call answers by a throw

abbrev by_rows : World
by_rows = record { engine = nothing_set; functions = []; host = host_of (record { past = []; call = asked "f" []; answer = Answers (i 7) None } ∷ record { past = asked "f" [] ∷ []; call = asked "f" []; answer = AnswersThrow (i 8) } ∷ []) (record { name = codes "a::x"; value = i 9 } ∷ []) [] }

host_by_rows : ran_in by_rows (let' "x" (fn "f" []) ∷ ExprStmt (fn "f" []) ∷ []) 0 ≡ report (WithThrown (i 8)) (var_is "x" (i 7) ∷ []) (asked "f" [] ∷ asked "f" [] ∷ []) 0
unfolding ran
host_by_rows = refl

module_value : ran_in by_rows (ExprStmt (Variable (codes "a" ∷ []) (codes "x")) ∷ []) 0 ≡ report (gives (i 9)) [] [] 0
unfolding ran
module_value = refl

-- ---- chains

-- let m = #{a: [1]}; m.a[0] = 5; m?.b?.c; "aé"[-1]
character_of_two_bytes : ran (ExprStmt (at (StringConstant (97 ∷ 195 ∷ 169 ∷ [])) (IntegerConstant (negsuc 0))) ∷ []) 0 ≡ report (gives (CharV 233)) [] [] 0
unfolding ran
character_of_two_bytes = refl

element_of_an_entry : ran (let' "m" (map_one "a" (array (int 1 ∷ []))) ∷ Assignment (Some Plus) (Dot (record { negated = false; breaks = false; exported = false }) (var "m") (Index (record { negated = false; breaks = true; exported = false }) (prop "a") (int 0))) (int 4) ∷ []) 0
    ≡ report (gives UnitV) (var_is "m" (MapV (field (codes "a") (ArrayV (values (i 5 ∷ []))) no_fields)) ∷ []) [] 0
unfolding ran
element_of_an_entry = refl

-- m?.b?.c over a missing b: unit, without a call
optional_steps : ran (let' "m" (map_one "a" (int 1)) ∷ ExprStmt (Dot (record { negated = true; breaks = false; exported = false }) (var "m") (Dot (record { negated = true; breaks = false; exported = false }) (prop "b") (prop "c"))) ∷ []) 0
    ≡ report (gives UnitV) (var_is "m" (MapV (field (codes "a") (i 1) no_fields)) ∷ []) [] 0
unfolding ran
optional_steps = refl

call_is_no_place : ran (Assignment None (dot (fn "f" []) (prop "a")) (int 1) ∷ []) 0 ≡ report (WithStuck NoPlace) [] [] 0
unfolding ran
call_is_no_place = refl

break_outside_a_loop : ran (BreakLoop true false (an_expr (fn "f" [])) ∷ []) 0 ≡ report (WithStuck WrongKind) [] [] 0
unfolding ran
break_outside_a_loop = refl

this_unbound : ran (ExprStmt ThisPtr ∷ []) 0 ≡ report (WithStuck UnboundThis) [] [] 0
unfolding ran
this_unbound = refl

-- ---- loops: the guard of a `do` belongs to the loop around

abbrev guard_breaks : Stmt
guard_breaks = While UnitConstant (stmts (Do false false (BlockExpr (stmts (BreakLoop true false (an_expr (int 5)) ∷ ExprStmt (BoolConstant true) ∷ []))) no_stmts ∷ []))

guard_breaks_the_loop_around : ran (guard_breaks ∷ []) 3 ≡ report (gives (i 5)) [] [] 1
unfolding ran
guard_breaks_the_loop_around = refl

abbrev guard_continues : Stmt
guard_continues = While UnitConstant (stmts (Do false false (BlockExpr (stmts (BreakLoop false false no_expr ∷ ExprStmt (BoolConstant true) ∷ []))) no_stmts ∷ ExprStmt (fn "f" []) ∷ []))

guard_continues_the_loop_around : ran (guard_continues ∷ []) 4 ≡ report WithoutTurns [] [] 0
unfolding ran
guard_continues_the_loop_around = refl

-- a call by a pointer that captures: fn f() { k } let k = 2; call!(Fn("f"))
pointer_call_captures : ran_in (world_with (record { name = codes "f"; this_type = None; params = []; body = stmts (ExprStmt (var "k") ∷ []) } ∷ [])) (let' "k" (int 2) ∷ ExprStmt (FnCall (record { namespace = []; name = codes "call"; captures = true; token = NoToken }) (exprs (fn "Fn" (StringConstant (codes "f") ∷ []) ∷ []))) ∷ []) 1
    ≡ report (gives (i 2)) (var_is "k" (i 2) ∷ []) [] 0
unfolding ran
pointer_call_captures = refl
