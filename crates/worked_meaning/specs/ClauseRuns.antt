-- Runs for single clauses: indices, methods without a place, ranges, loop names, statements without a value, the start.
use Rattle.std.specs.Prelude.{◌≡◌, ℕ, true, false, List, [], ◌∷◌, Option, Some, None, map, pos, codes, refl}
use Prim.Native.String.{String}
use Rattle.rhai_base.specs.Value.{Value, UnitV, BoolV, CharV, TextV, MapV, ArrayV, PointerV, values, field, no_fields, type_name}
use Rattle.rhai_base.specs.Operators.{Plus, UpTo}
use Rattle.theory_meaning.specs.Act.{Answers, NoPlace, Unbound, UnboundThis}
use Rattle.theory_meaning.specs.Run.{AtStatements, Report, End, WithStuck}
use Rattle.theory_meaning.specs.Tree.{Expr, BoolConstant, StringConstant, UnitConstant, MapOf, ThisPtr, Index, ExclusiveInt, Function, Noop, Switch, While, For, Assignment, TryCatch, ExprStmt, BreakLoop, Return, no_expr, an_expr, arms, no_pairs, stmts}
use Rattle.worked_meaning.specs.Terms.{i, run, World, int, var, op, fn, let', array, at, dot, prop, meth, nothing_set, world, world_with, asked, var_is, const_is}
use Rattle.worked_meaning.specs.Runs.{ran_in, ran, report, gives, throws}

-- a host that answers 3, and 4 as the new receiver
abbrev new_receiver : World
new_receiver = record { engine = nothing_set; host = record { answer = λ past c. Answers (i 3) (Some (i 4)); module_value = λ x. None; module_of = λ p. None; text = type_name }; functions = [] }

-- ---- indices

-- let m = #{}; m["a"] = 1; m["a"] = 2: a missing entry is added, one that stands is written
written_entry : ran (let' "m" (MapOf no_pairs []) ∷ Assignment None (at (var "m") (StringConstant (codes "a"))) (int 1) ∷ []) 0 ∷ ran (let' "m" (MapOf no_pairs []) ∷ Assignment None (at (var "m") (StringConstant (codes "a"))) (int 1) ∷ Assignment None (at (var "m") (StringConstant (codes "a"))) (int 2) ∷ []) 0 ∷ []
    ≡ report (gives UnitV) (var_is "m" (MapV (field (codes "a") (i 1) no_fields)) ∷ []) [] 0 ∷ report (gives UnitV) (var_is "m" (MapV (field (codes "a") (i 2) no_fields)) ∷ []) [] 0 ∷ []
unfolding ran
written_entry = refl

-- let s = "ab"; s[0] = 1: an index into a text is written by the host
written_character : ran_in new_receiver (let' "s" (StringConstant (codes "ab")) ∷ Assignment None (at (var "s") (int 0)) (int 1) ∷ []) 0 ≡ report (gives UnitV) (var_is "s" (i 4) ∷ []) (record (asked "index$set$" (i 0 ∷ i 1 ∷ [])) { receiver = Some (TextV (codes "ab")) } ∷ []) 0
unfolding ran
written_character = refl

-- "a"[5]
character_out_of_bounds : ran (ExprStmt (at (StringConstant (codes "a")) (int 5)) ∷ []) 0 ≡ report (throws "text bounds") [] [] 0
unfolding ran
character_out_of_bounds = refl

-- let x = ..; x[0].m(): what becomes of x where the method gives a new receiver
abbrev first_by_method : Expr → Report
first_by_method e = ran_in new_receiver (let' "x" e ∷ ExprStmt (Index (record { negated = false; breaks = false; exported = false }) (var "x") (dot (int 0) (meth "m" []))) ∷ []) 0

abbrev method_of_first : Value → Value → Report
method_of_first v part = report (gives (i 3)) (var_is "x" v ∷ []) (record (asked "m" []) { receiver = Some part } ∷ []) 0

-- a character, a bit and an element: the first two leave no place
parts_without_place : first_by_method (StringConstant (codes "ab")) ∷ first_by_method (int 5) ∷ first_by_method (array (int 1 ∷ [])) ∷ [] ≡ method_of_first (TextV (codes "ab")) (CharV 97) ∷ method_of_first (i 5) (BoolV true) ∷ method_of_first (ArrayV (values (i 4 ∷ []))) (i 1) ∷ []
unfolding ran
parts_without_place = refl

-- ---- the language's own functions as methods

-- 1.is_shared(), 1.is_shared(2)
never_shared_as_method : ran (ExprStmt (dot (int 1) (meth "is_shared" [])) ∷ []) 0 ∷ ran (ExprStmt (dot (int 1) (meth "is_shared" (int 2 ∷ []))) ∷ []) 0 ∷ []
    ≡ report (gives (BoolV false)) [] [] 0 ∷ report (gives UnitV) [] (record (asked "is_shared" (i 2 ∷ [])) { receiver = Some (i 1) } ∷ []) 0 ∷ []
unfolding ran
never_shared_as_method = refl

-- fn g(a) { 7 }; let x = Fn("g"); x.type_of().p = 1, x.is_shared().p = 1, x.curry(1).p = 1, x.call(1).p = 1
abbrev seven : Function
seven = record { name = codes "g"; this_type = None; params = codes "a" ∷ []; body = stmts (ExprStmt (int 7) ∷ []) }

abbrev set_behind : Expr → End
unfolding ran
set_behind m = (ran_in (world_with (seven ∷ [])) (let' "x" (fn "Fn" (StringConstant (codes "g") ∷ [])) ∷ Assignment None (dot (var "x") (dot m (prop "p"))) (int 1) ∷ []) 1).ended

methods_without_place : map set_behind (meth "type_of" [] ∷ meth "is_shared" [] ∷ meth "curry" (int 1 ∷ []) ∷ meth "call" (int 1 ∷ []) ∷ []) ≡ WithStuck NoPlace ∷ WithStuck NoPlace ∷ WithStuck NoPlace ∷ WithStuck NoPlace ∷ []
unfolding ran
methods_without_place = refl

-- x.curry(1), x.call(1): x stays
curry_and_call : map (λ m. ran_in (world_with (seven ∷ [])) (let' "x" (fn "Fn" (StringConstant (codes "g") ∷ [])) ∷ ExprStmt (dot (var "x") m) ∷ []) 1) (meth "curry" (int 1 ∷ []) ∷ meth "call" (int 1 ∷ []) ∷ [])
    ≡ report (gives (PointerV (codes "g") (values (i 1 ∷ [])))) (var_is "x" (PointerV (codes "g") (values [])) ∷ []) [] 1 ∷ report (gives (i 7)) (var_is "x" (PointerV (codes "g") (values [])) ∷ []) [] 0 ∷ []
unfolding ran
curry_and_call = refl

-- ---- `switch` and `for`

-- switch 6 { 5..8 if false => 1, 0..9 => 2 }: all ranges that hold the subject are tried
later_range : (ran (Switch (int 6) (arms ((BoolConstant false, int 1) ∷ (BoolConstant true, int 2) ∷ [])) (record { cases = []; ranges = record { range = ExclusiveInt (pos 5) (pos 8); arm = 0 } ∷ record { range = ExclusiveInt (pos 0) (pos 9); arm = 1 } ∷ []; default = None }) ∷ []) 0).ended ≡ gives (i 2)
unfolding ran
later_range = refl

-- for x in [1] { x = 2; print(x) }, the same over 1..2, and for (x, k) with k = 2 in both: all are variables
abbrev writes_in : String → Option (List ℕ) → Expr → Report
unfolding ran
writes_in y counter e = ran (For (codes "x") counter e (stmts (Assignment None (var y) (int 2) ∷ ExprStmt (fn "print" (var y ∷ [])) ∷ [])) ∷ []) 1

abbrev prints_two : Report
prints_two = report (gives UnitV) [] (asked "print" (i 2 ∷ []) ∷ []) 0

loop_names_are_variables : writes_in "x" None (array (int 1 ∷ [])) ∷ writes_in "x" None (op UpTo (int 1 ∷ int 2 ∷ [])) ∷ writes_in "k" (Some (codes "k")) (array (int 1 ∷ [])) ∷ writes_in "k" (Some (codes "k")) (op UpTo (int 1 ∷ int 2 ∷ [])) ∷ []
    ≡ prints_two ∷ prints_two ∷ prints_two ∷ prints_two ∷ []
unfolding ran
loop_names_are_variables = refl

-- ---- statements without a value of their own

-- 1; noop, 1; let x = 2, let x = 1; x = 2
units : (ran (ExprStmt (int 1) ∷ Noop ∷ []) 0).ended ∷ (ran (ExprStmt (int 1) ∷ let' "x" (int 2) ∷ []) 0).ended ∷ (ran (let' "x" (int 1) ∷ Assignment None (var "x") (int 2) ∷ []) 0).ended ∷ [] ≡ gives UnitV ∷ gives UnitV ∷ gives UnitV ∷ []
unfolding ran
units = refl

-- let x = 1; let x = x + 1, and let x = x: a declaration adds its name behind its value
name_behind_its_value : ran (let' "x" (int 1) ∷ let' "x" (op Plus (var "x" ∷ int 1 ∷ [])) ∷ []) 0 ∷ ran (let' "x" (var "x") ∷ []) 0 ∷ [] ≡ report (gives UnitV) (var_is "x" (i 1) ∷ var_is "x" (i 2) ∷ []) [] 0 ∷ report (WithStuck Unbound) [] [] 0 ∷ []
unfolding ran
name_behind_its_value = refl

-- 1; return; and loop { 1; break; }
leaves_with_unit : (ran (ExprStmt (int 1) ∷ Return false false no_expr ∷ []) 0).ended ∷ (ran (While UnitConstant (stmts (ExprStmt (int 1) ∷ BreakLoop true false no_expr ∷ [])) ∷ []) 1).ended ∷ [] ≡ gives UnitV ∷ gives UnitV ∷ []
unfolding ran
leaves_with_unit = refl

-- while false { 1 }, for x in [1] { 5 }
loops_are_unit : (ran (While (BoolConstant false) (stmts (ExprStmt (int 1) ∷ [])) ∷ []) 0).ended ∷ (ran (For (codes "x") None (array (int 1 ∷ [])) (stmts (ExprStmt (int 5) ∷ [])) ∷ []) 1).ended ∷ [] ≡ gives UnitV ∷ gives UnitV ∷ []
unfolding ran
loops_are_unit = refl

-- try { return 1 } catch { f() }; loop { try { break 2 } catch { f() } }: only throws are caught
only_throws_are_caught : ran (TryCatch UnitConstant (stmts (Return false false (an_expr (int 1)) ∷ [])) (stmts (ExprStmt (fn "f" []) ∷ [])) ∷ []) 0 ∷ ran (While UnitConstant (stmts (TryCatch UnitConstant (stmts (BreakLoop true false (an_expr (int 2)) ∷ [])) (stmts (ExprStmt (fn "f" []) ∷ [])) ∷ [])) ∷ []) 1 ∷ []
    ≡ report (gives (i 1)) [] [] 0 ∷ report (gives (i 2)) [] [] 0 ∷ []
unfolding ran
only_throws_are_caught = refl

-- ---- the start

-- x, from a scope with a constant x; this
from_a_scope : run world (stmts (ExprStmt (var "x") ∷ let' "y" (int 2) ∷ [])) AtStatements (const_is "x" (i 1) ∷ []) 0 ∷ run world (stmts (ExprStmt (var "x") ∷ [])) AtStatements (const_is "x" (i 1) ∷ []) 0 ∷ run world (stmts (ExprStmt ThisPtr ∷ [])) AtStatements (const_is "x" (i 1) ∷ []) 0 ∷ []
    ≡ report (gives UnitV) (const_is "x" (i 1) ∷ var_is "y" (i 2) ∷ []) [] 0 ∷ report (gives (i 1)) (const_is "x" (i 1) ∷ []) [] 0 ∷ report (WithStuck UnboundThis) (const_is "x" (i 1) ∷ []) [] 0 ∷ []
unfolding run
from_a_scope = refl
