-- Runs of small scripts for single sentences of the meaning, each as an evaluator of its own computed it.
use Rattle.std.specs.Prelude.{◌≡◌, true, false, [], ◌∷◌, None, Some, pos, negsuc, codes, refl}
use Rattle.rhai_base.specs.Value.{UnitV, BoolV, IntV, CharV, TextV, ArrayV, MapV, PointerV, RangeV, RangeInclusiveV, values, field, no_fields}
use Rattle.rhai_base.specs.Operators.{Plus}
use Rattle.theory_meaning.specs.Act.{Answers, Unbound, WrongKind, WriteToConstant, NoPlace, UnboundThis}
use Rattle.theory_meaning.specs.Run.{AtStatements, WithValue, WithThrown, WithStuck}
use Rattle.theory_meaning.specs.Tree.{OfOperator, NoToken, ExclusiveInt, DynamicConstant, BoolConstant, IntegerConstant, CharConstant, StringConstant, UnitConstant, ArrayOf, MapOf, Variable, ThisPtr, MethodCall, BlockExpr, FnCall, Dot, Index, And, Coalesce, pair, no_pairs, no_expr, an_expr, arm, no_arms, Switch, While, Do, For, Var, Assignment, TryCatch, ExprStmt, BreakLoop, Return, exprs, stmts}
use Rattle.worked_meaning.specs.EvaluatedForms.{callee, flags, property, table, case, function, entry, asked, engine, ends, named, host, ran}

-- let m = #{}
-- Dot(m, Dot(a, g()))
-- m
-- fn g() {}
missing_entry_is_added : ran (engine [] [] [] false) (host (named (codes "f") [] ∷ named (codes "g") [] ∷ []) (Answers (IntV (pos 3)) (Some (IntV (pos 4))) ∷ []) []) ((function None (codes "g") [] []) ∷ []) ((Var false false (codes "m") (MapOf no_pairs [])) ∷ (ExprStmt (Dot (flags false false) (Variable [] (codes "m")) (Dot (flags false false) (property (codes "get$a") (codes "set$a") (codes "a")) (MethodCall (callee [] (codes "g") false NoToken) (exprs []))))) ∷ (ExprStmt (Variable [] (codes "m"))) ∷ []) AtStatements [] 3 ≡ ends (WithValue (MapV (field (codes "a") UnitV no_fields))) (entry (codes "m") false (MapV (field (codes "a") UnitV no_fields)) ∷ []) None [] 2
unfolding ran
missing_entry_is_added = refl

-- const m = #{}
-- Dot(m, a) = ()
-- m
entry_of_a_constant_is_not_assigned : ran (engine [] [] [] false) (host (named (codes "f") [] ∷ named (codes "g") [] ∷ []) (Answers (IntV (pos 3)) (Some (IntV (pos 4))) ∷ []) []) [] ((Var true false (codes "m") (MapOf no_pairs [])) ∷ (Assignment None (Dot (flags false false) (Variable [] (codes "m")) (property (codes "get$a") (codes "set$a") (codes "a"))) UnitConstant) ∷ (ExprStmt (Variable [] (codes "m"))) ∷ []) AtStatements [] 3 ≡ ends (WithStuck WriteToConstant) (entry (codes "m") true (MapV no_fields) ∷ []) None [] 3
unfolding ran
entry_of_a_constant_is_not_assigned = refl

-- const m = #{a: [1]}
-- Index(m, Index!("a", 5)) = 1
-- m
bounds_before_constants : ran (engine [] [] [] false) (host (named (codes "f") [] ∷ named (codes "g") [] ∷ []) (Answers (IntV (pos 3)) (Some (IntV (pos 4))) ∷ []) []) [] ((Var true false (codes "m") (MapOf (pair (codes "a") (ArrayOf (exprs ((IntegerConstant (pos 1)) ∷ []))) no_pairs) ((codes "a") ∷ []))) ∷ (Assignment None (Index (flags false false) (Variable [] (codes "m")) (Index (flags false true) (StringConstant (codes "a")) (IntegerConstant (pos 5)))) (IntegerConstant (pos 1))) ∷ (ExprStmt (Variable [] (codes "m"))) ∷ []) AtStatements [] 3 ≡ ends (WithThrown (TextV (codes "array bounds"))) (entry (codes "m") true (MapV (field (codes "a") (ArrayV (values ((IntV (pos 1)) ∷ []))) no_fields)) ∷ []) None [] 3
unfolding ran
bounds_before_constants = refl

-- let m = [1]
-- Index!(m, 5) += 1
-- m
op_assignment_reads_first : ran (engine [] [] [] false) (host (named (codes "f") [] ∷ named (codes "g") [] ∷ []) (Answers (IntV (pos 3)) (Some (IntV (pos 4))) ∷ []) []) [] ((Var false false (codes "m") (ArrayOf (exprs ((IntegerConstant (pos 1)) ∷ [])))) ∷ (Assignment (Some Plus) (Index (flags false true) (Variable [] (codes "m")) (IntegerConstant (pos 5))) (IntegerConstant (pos 1))) ∷ (ExprStmt (Variable [] (codes "m"))) ∷ []) AtStatements [] 3 ≡ ends (WithThrown (TextV (codes "array bounds"))) (entry (codes "m") false (ArrayV (values ((IntV (pos 1)) ∷ []))) ∷ []) None [] 3
unfolding ran
op_assignment_reads_first = refl

-- Dot(f(), p) = g()
-- 1
no_place_after_the_right_side : ran (engine [] [] [] false) (host (named (codes "f") [] ∷ named (codes "g") [] ∷ []) (Answers (IntV (pos 3)) (Some (IntV (pos 4))) ∷ []) []) [] ((Assignment None (Dot (flags false false) (FnCall (callee [] (codes "f") false NoToken) (exprs [])) (property (codes "get$p") (codes "set$p") (codes "p"))) (FnCall (callee [] (codes "g") false NoToken) (exprs []))) ∷ (ExprStmt (IntegerConstant (pos 1))) ∷ []) AtStatements [] 3 ≡ ends (WithStuck NoPlace) [] None (asked None (codes "g") [] ∷ []) 3
unfolding ran
no_place_after_the_right_side = refl

-- x = g()
-- 1
unbound_after_the_right_side : ran (engine [] [] [] false) (host (named (codes "f") [] ∷ named (codes "g") [] ∷ []) (Answers (IntV (pos 3)) (Some (IntV (pos 4))) ∷ []) []) [] ((Assignment None (Variable [] (codes "x")) (FnCall (callee [] (codes "g") false NoToken) (exprs []))) ∷ (ExprStmt (IntegerConstant (pos 1))) ∷ []) AtStatements [] 3 ≡ ends (WithStuck Unbound) [] None (asked None (codes "g") [] ∷ []) 3
unfolding ran
unbound_after_the_right_side = refl

-- x::y = g()
-- 1
qualified_name_is_no_place : ran (engine [] [] [] false) (host (named (codes "f") [] ∷ named (codes "g") [] ∷ []) (Answers (IntV (pos 3)) (Some (IntV (pos 4))) ∷ []) []) [] ((Assignment None (Variable ((codes "x") ∷ []) (codes "y")) (FnCall (callee [] (codes "g") false NoToken) (exprs []))) ∷ (ExprStmt (IntegerConstant (pos 1))) ∷ []) AtStatements [] 3 ≡ ends (WithStuck NoPlace) [] None (asked None (codes "g") [] ∷ []) 3
unfolding ran
qualified_name_is_no_place = refl

-- let x = 1
-- Dot(x, Dot(g(), p)) = h()
method_gives_no_place : ran (engine [] [] [] false) (host (named (codes "f") [] ∷ named (codes "g") [] ∷ []) (Answers (IntV (pos 3)) (Some (IntV (pos 4))) ∷ []) []) [] ((Var false false (codes "x") (IntegerConstant (pos 1))) ∷ (Assignment None (Dot (flags false false) (Variable [] (codes "x")) (Dot (flags false false) (MethodCall (callee [] (codes "g") false NoToken) (exprs [])) (property (codes "get$p") (codes "set$p") (codes "p")))) (FnCall (callee [] (codes "h") false NoToken) (exprs []))) ∷ []) AtStatements [] 3 ≡ ends (WithStuck NoPlace) (entry (codes "x") false (IntV (pos 1)) ∷ []) None (asked None (codes "h") [] ∷ asked (Some (IntV (pos 1))) (codes "g") [] ∷ []) 3
unfolding ran
method_gives_no_place = refl

-- let x = 1
-- Index!(x, 0) = true
host_sets_an_index : ran (engine [] [] [] false) (host (named (codes "f") [] ∷ named (codes "g") [] ∷ []) (Answers (IntV (pos 3)) (Some (IntV (pos 4))) ∷ []) []) [] ((Var false false (codes "x") (IntegerConstant (pos 1))) ∷ (Assignment None (Index (flags false true) (Variable [] (codes "x")) (IntegerConstant (pos 0))) (BoolConstant true)) ∷ []) AtStatements [] 3 ≡ ends (WithValue UnitV) (entry (codes "x") false (IntV (pos 4)) ∷ []) None (asked (Some (IntV (pos 1))) (codes "index$set$") ((IntV (pos 0)) ∷ (BoolV true) ∷ []) ∷ []) 3
unfolding ran
host_sets_an_index = refl

-- let x = "abc"
-- Index!(x, 0) += 'z'
-- x
host_sets_a_text_by_operator : ran (engine [] [] [] false) (host (named (codes "f") [] ∷ named (codes "g") [] ∷ []) (Answers (IntV (pos 3)) (Some (IntV (pos 4))) ∷ []) []) [] ((Var false false (codes "x") (StringConstant (codes "abc"))) ∷ (Assignment (Some Plus) (Index (flags false true) (Variable [] (codes "x")) (IntegerConstant (pos 0))) (CharConstant 122)) ∷ (ExprStmt (Variable [] (codes "x"))) ∷ []) AtStatements [] 3 ≡ ends (WithValue (IntV (pos 4))) (entry (codes "x") false (IntV (pos 4)) ∷ []) None (asked (Some (TextV (codes "abc"))) (codes "index$set$") ((IntV (pos 0)) ∷ (TextV (codes "az")) ∷ []) ∷ []) 3
unfolding ran
host_sets_a_text_by_operator = refl

-- let x = [[1, 2]]
-- Index(x, Index!(-1, { x = [[3], [4, 5]]; 0 })) = 9
-- x
negative_index_is_found_again : ran (engine [] [] [] false) (host (named (codes "f") [] ∷ named (codes "g") [] ∷ []) (Answers (IntV (pos 3)) (Some (IntV (pos 4))) ∷ []) []) [] ((Var false false (codes "x") (ArrayOf (exprs ((ArrayOf (exprs ((IntegerConstant (pos 1)) ∷ (IntegerConstant (pos 2)) ∷ []))) ∷ [])))) ∷ (Assignment None (Index (flags false false) (Variable [] (codes "x")) (Index (flags false true) (IntegerConstant (negsuc 0)) (BlockExpr (stmts ((Assignment None (Variable [] (codes "x")) (ArrayOf (exprs ((ArrayOf (exprs ((IntegerConstant (pos 3)) ∷ []))) ∷ (ArrayOf (exprs ((IntegerConstant (pos 4)) ∷ (IntegerConstant (pos 5)) ∷ []))) ∷ [])))) ∷ (ExprStmt (IntegerConstant (pos 0))) ∷ []))))) (IntegerConstant (pos 9))) ∷ (ExprStmt (Variable [] (codes "x"))) ∷ []) AtStatements [] 3 ≡ ends (WithValue (ArrayV (values ((ArrayV (values ((IntV (pos 3)) ∷ []))) ∷ (ArrayV (values ((IntV (pos 9)) ∷ (IntV (pos 5)) ∷ []))) ∷ [])))) (entry (codes "x") false (ArrayV (values ((ArrayV (values ((IntV (pos 3)) ∷ []))) ∷ (ArrayV (values ((IntV (pos 9)) ∷ (IntV (pos 5)) ∷ []))) ∷ []))) ∷ []) None [] 3
unfolding ran
negative_index_is_found_again = refl

-- let x = [1]
-- for y in x { x = [2, 3] }
-- x
iterable_is_evaluated_once : ran (engine [] [] [] false) (host (named (codes "f") [] ∷ named (codes "g") [] ∷ []) (Answers (IntV (pos 3)) (Some (IntV (pos 4))) ∷ []) []) [] ((Var false false (codes "x") (ArrayOf (exprs ((IntegerConstant (pos 1)) ∷ [])))) ∷ (For (codes "y") None (Variable [] (codes "x")) (stmts ((Assignment None (Variable [] (codes "x")) (ArrayOf (exprs ((IntegerConstant (pos 2)) ∷ (IntegerConstant (pos 3)) ∷ [])))) ∷ []))) ∷ (ExprStmt (Variable [] (codes "x"))) ∷ []) AtStatements [] 3 ≡ ends (WithValue (ArrayV (values ((IntV (pos 2)) ∷ (IntV (pos 3)) ∷ [])))) (entry (codes "x") false (ArrayV (values ((IntV (pos 2)) ∷ (IntV (pos 3)) ∷ []))) ∷ []) None [] 2
unfolding ran
iterable_is_evaluated_once = refl

-- try { throw 1 } catch x { x = 2; throw }
branch_that_throws_unit : ran (engine [] [] [] false) (host (named (codes "f") [] ∷ named (codes "g") [] ∷ []) (Answers (IntV (pos 3)) (Some (IntV (pos 4))) ∷ []) []) [] ((TryCatch (Variable [] (codes "x")) (stmts ((Return true false (an_expr (IntegerConstant (pos 1)))) ∷ [])) (stmts ((Assignment None (Variable [] (codes "x")) (IntegerConstant (pos 2))) ∷ (Return true false no_expr) ∷ []))) ∷ []) AtStatements [] 3 ≡ ends (WithThrown (IntV (pos 1))) [] None [] 3
unfolding ran
branch_that_throws_unit = refl

-- type_of(1, 2)
type_of_two_asks_the_host : ran (engine [] [] [] false) (host (named (codes "f") [] ∷ named (codes "g") [] ∷ []) (Answers (IntV (pos 3)) (Some (IntV (pos 4))) ∷ []) []) [] ((ExprStmt (FnCall (callee [] (codes "type_of") false NoToken) (exprs ((IntegerConstant (pos 1)) ∷ (IntegerConstant (pos 2)) ∷ [])))) ∷ []) AtStatements [] 3 ≡ ends (WithValue (IntV (pos 3))) [] None (asked None (codes "type_of") ((IntV (pos 1)) ∷ (IntV (pos 2)) ∷ []) ∷ []) 3
unfolding ran
type_of_two_asks_the_host = refl

-- Fn()
pointer_of_none_asks_the_host : ran (engine [] [] [] false) (host (named (codes "f") [] ∷ named (codes "g") [] ∷ []) (Answers (IntV (pos 3)) (Some (IntV (pos 4))) ∷ []) []) [] ((ExprStmt (FnCall (callee [] (codes "Fn") false NoToken) (exprs []))) ∷ []) AtStatements [] 3 ≡ ends (WithValue (IntV (pos 3))) [] None (asked None (codes "Fn") [] ∷ []) 3
unfolding ran
pointer_of_none_asks_the_host = refl

-- curry()
curry_of_none_asks_the_host : ran (engine [] [] [] false) (host (named (codes "f") [] ∷ named (codes "g") [] ∷ []) (Answers (IntV (pos 3)) (Some (IntV (pos 4))) ∷ []) []) [] ((ExprStmt (FnCall (callee [] (codes "curry") false NoToken) (exprs []))) ∷ []) AtStatements [] 3 ≡ ends (WithValue (IntV (pos 3))) [] None (asked None (codes "curry") [] ∷ []) 3
unfolding ran
curry_of_none_asks_the_host = refl

-- call(1)
call_of_no_pointer : ran (engine [] [] [] false) (host (named (codes "f") [] ∷ named (codes "g") [] ∷ []) (Answers (IntV (pos 3)) (Some (IntV (pos 4))) ∷ []) []) [] ((ExprStmt (FnCall (callee [] (codes "call") false NoToken) (exprs ((IntegerConstant (pos 1)) ∷ [])))) ∷ []) AtStatements [] 3 ≡ ends (WithStuck WrongKind) [] None [] 3
unfolding ran
call_of_no_pointer = refl

-- is_shared(f(), 2)
is_shared_of_two_asks_the_host : ran (engine [] [] [] false) (host (named (codes "f") [] ∷ named (codes "g") [] ∷ []) (Answers (IntV (pos 3)) (Some (IntV (pos 4))) ∷ []) []) [] ((ExprStmt (FnCall (callee [] (codes "is_shared") false NoToken) (exprs ((FnCall (callee [] (codes "f") false NoToken) (exprs [])) ∷ (IntegerConstant (pos 2)) ∷ [])))) ∷ []) AtStatements [] 3 ≡ ends (WithValue UnitV) [] None (asked None (codes "f") [] ∷ asked None (codes "is_shared") (UnitV ∷ (IntV (pos 2)) ∷ []) ∷ []) 3
unfolding ran
is_shared_of_two_asks_the_host = refl

-- Dot(1, type_of(2))
type_of_method_with_argument : ran (engine [] [] [] false) (host (named (codes "f") [] ∷ named (codes "g") [] ∷ []) (Answers (IntV (pos 3)) (Some (IntV (pos 4))) ∷ []) []) [] ((ExprStmt (Dot (flags false false) (IntegerConstant (pos 1)) (MethodCall (callee [] (codes "type_of") false NoToken) (exprs ((IntegerConstant (pos 2)) ∷ []))))) ∷ []) AtStatements [] 3 ≡ ends (WithValue (IntV (pos 3))) [] None (asked (Some (IntV (pos 1))) (codes "type_of") ((IntV (pos 2)) ∷ []) ∷ []) 3
unfolding ran
type_of_method_with_argument = refl

-- Dot(1, print())
print_as_method : ran (engine [] [] [] false) (host (named (codes "f") [] ∷ named (codes "g") [] ∷ []) (Answers (IntV (pos 3)) (Some (IntV (pos 4))) ∷ []) []) [] ((ExprStmt (Dot (flags false false) (IntegerConstant (pos 1)) (MethodCall (callee [] (codes "print") false NoToken) (exprs [])))) ∷ []) AtStatements [] 3 ≡ ends (WithValue (IntV (pos 3))) [] None (asked (Some (IntV (pos 1))) (codes "print") [] ∷ []) 3
unfolding ran
print_as_method = refl

-- Dot(Fn("g"), call(1, 2))
-- fn g(a, b) { this }
called_function_has_no_this : ran (engine [] [] [] false) (host (named (codes "f") [] ∷ named (codes "g") [] ∷ []) (Answers (IntV (pos 3)) (Some (IntV (pos 4))) ∷ []) []) ((function None (codes "g") ((codes "a") ∷ (codes "b") ∷ []) ((ExprStmt ThisPtr) ∷ [])) ∷ []) ((ExprStmt (Dot (flags false false) (FnCall (callee [] (codes "Fn") false NoToken) (exprs ((StringConstant (codes "g")) ∷ []))) (MethodCall (callee [] (codes "call") false NoToken) (exprs ((IntegerConstant (pos 1)) ∷ (IntegerConstant (pos 2)) ∷ []))))) ∷ []) AtStatements [] 3 ≡ ends (WithStuck UnboundThis) [] None [] 2
unfolding ran
called_function_has_no_this = refl

-- let x = 1
-- Dot(x, eval(g()))
barred_method_after_its_base : ran (engine [] [] [] false) (host (named (codes "f") [] ∷ named (codes "g") [] ∷ []) (Answers (IntV (pos 3)) (Some (IntV (pos 4))) ∷ []) []) [] ((Var false false (codes "x") (IntegerConstant (pos 1))) ∷ (ExprStmt (Dot (flags false false) (Variable [] (codes "x")) (MethodCall (callee [] (codes "eval") false NoToken) (exprs ((FnCall (callee [] (codes "g") false NoToken) (exprs [])) ∷ []))))) ∷ []) AtStatements [] 3 ≡ ends (WithStuck WrongKind) (entry (codes "x") false (IntV (pos 1)) ∷ []) None [] 3
unfolding ran
barred_method_after_its_base = refl

-- print!(1)
print_that_captures : ran (engine [] [] [] false) (host (named (codes "f") [] ∷ named (codes "g") [] ∷ []) (Answers (IntV (pos 3)) (Some (IntV (pos 4))) ∷ []) []) [] ((ExprStmt (FnCall (callee [] (codes "print") true NoToken) (exprs ((IntegerConstant (pos 1)) ∷ [])))) ∷ []) AtStatements [] 3 ≡ ends (WithValue (IntV (pos 3))) [] None (asked None (codes "print") ((IntV (pos 1)) ∷ []) ∷ []) 3
unfolding ran
print_that_captures = refl

-- try { Index!([], 0) } catch x { x }
try_gives_unit : ran (engine [] [] [] false) (host (named (codes "f") [] ∷ named (codes "g") [] ∷ []) (Answers (IntV (pos 3)) (Some (IntV (pos 4))) ∷ []) []) [] ((TryCatch (Variable [] (codes "x")) (stmts ((ExprStmt (Index (flags false true) (ArrayOf (exprs [])) (IntegerConstant (pos 0)))) ∷ [])) (stmts ((ExprStmt (Variable [] (codes "x"))) ∷ []))) ∷ []) AtStatements [] 3 ≡ ends (WithValue UnitV) [] None [] 3
unfolding ran
try_gives_unit = refl

-- do { continue } while ()
continue_in_a_do_with_unit_guard : ran (engine [] [] [] false) (host (named (codes "f") [] ∷ named (codes "g") [] ∷ []) (Answers (IntV (pos 3)) (Some (IntV (pos 4))) ∷ []) []) [] ((Do false false UnitConstant (stmts ((BreakLoop false false no_expr) ∷ []))) ∷ []) AtStatements [] 3 ≡ ends (WithStuck WrongKind) [] None [] 2
unfolding ran
continue_in_a_do_with_unit_guard = refl

-- while { return 5; true } {}
return_in_a_guard : ran (engine [] [] [] false) (host (named (codes "f") [] ∷ named (codes "g") [] ∷ []) (Answers (IntV (pos 3)) (Some (IntV (pos 4))) ∷ []) []) [] ((While (BlockExpr (stmts ((Return false false (an_expr (IntegerConstant (pos 5)))) ∷ (ExprStmt (BoolConstant true)) ∷ []))) (stmts [])) ∷ []) AtStatements [] 3 ≡ ends (WithValue (IntV (pos 5))) [] None [] 3
unfolding ran
return_in_a_guard = refl

-- loop { for x in { break 4; [1] } {} }
break_in_an_iterable : ran (engine [] [] [] false) (host (named (codes "f") [] ∷ named (codes "g") [] ∷ []) (Answers (IntV (pos 3)) (Some (IntV (pos 4))) ∷ []) []) [] ((While UnitConstant (stmts ((For (codes "x") None (BlockExpr (stmts ((BreakLoop true false (an_expr (IntegerConstant (pos 4)))) ∷ (ExprStmt (ArrayOf (exprs ((IntegerConstant (pos 1)) ∷ [])))) ∷ []))) (stmts [])) ∷ []))) ∷ []) AtStatements [] 3 ≡ ends (WithValue (IntV (pos 4))) [] None [] 2
unfolding ran
break_in_an_iterable = refl

-- g()
-- fn g() { loop { return 7 } }
return_from_a_loop_of_a_body : ran (engine [] [] [] false) (host (named (codes "f") [] ∷ named (codes "g") [] ∷ []) (Answers (IntV (pos 3)) (Some (IntV (pos 4))) ∷ []) []) ((function None (codes "g") [] ((While UnitConstant (stmts ((Return false false (an_expr (IntegerConstant (pos 7)))) ∷ []))) ∷ [])) ∷ []) ((ExprStmt (FnCall (callee [] (codes "g") false NoToken) (exprs []))) ∷ []) AtStatements [] 3 ≡ ends (WithValue (IntV (pos 7))) [] None [] 1
unfolding ran
return_from_a_loop_of_a_body = refl

-- switch 1 { 1:  | 0..3: 0 | default 1 | true => 1, true => 2 }
empty_case_hides_ranges : ran (engine [] [] [] false) (host (named (codes "f") [] ∷ named (codes "g") [] ∷ []) (Answers (IntV (pos 3)) (Some (IntV (pos 4))) ∷ []) []) [] ((Switch (IntegerConstant (pos 1)) (arm (BoolConstant true) (IntegerConstant (pos 1)) (arm (BoolConstant true) (IntegerConstant (pos 2)) no_arms)) (table (case (IntV (pos 1)) [] ∷ []) (record { range = ExclusiveInt (pos 0) (pos 3); arm = 0 } ∷ []) (Some 1))) ∷ []) AtStatements [] 3 ≡ ends (WithValue (IntV (pos 2))) [] None [] 3
unfolding ran
empty_case_hides_ranges = refl

-- switch <Fn(f)> {  |  | default 0 | true => 1 }
pointer_is_no_case : ran (engine [] [] [] false) (host (named (codes "f") [] ∷ named (codes "g") [] ∷ []) (Answers (IntV (pos 3)) (Some (IntV (pos 4))) ∷ []) []) [] ((Switch (DynamicConstant (PointerV (codes "f") (values []))) (arm (BoolConstant true) (IntegerConstant (pos 1)) no_arms) (table [] [] (Some 0))) ∷ []) AtStatements [] 3 ≡ ends (WithValue (IntV (pos 1))) [] None [] 3
unfolding ran
pointer_is_no_case = refl

-- switch 1 { 1: 0 |  | default - | f() => 1 }
condition_of_an_arm_is_no_bool : ran (engine [] [] [] false) (host (named (codes "f") [] ∷ named (codes "g") [] ∷ []) (Answers (IntV (pos 3)) (Some (IntV (pos 4))) ∷ []) []) [] ((Switch (IntegerConstant (pos 1)) (arm (FnCall (callee [] (codes "f") false NoToken) (exprs [])) (IntegerConstant (pos 1)) no_arms) (table (case (IntV (pos 1)) (0 ∷ []) ∷ []) [] None)) ∷ []) AtStatements [] 3 ≡ ends (WithStuck WrongKind) [] None (asked None (codes "f") [] ∷ []) 3
unfolding ran
condition_of_an_arm_is_no_bool = refl

-- and(false, 1)
operand_after_false_is_not_run : ran (engine [] [] [] false) (host (named (codes "f") [] ∷ named (codes "g") [] ∷ []) (Answers (IntV (pos 3)) (Some (IntV (pos 4))) ∷ []) []) [] ((ExprStmt (And (exprs ((BoolConstant false) ∷ (IntegerConstant (pos 1)) ∷ [])))) ∷ []) AtStatements [] 3 ≡ ends (WithValue (BoolV false)) [] None [] 3
unfolding ran
operand_after_false_is_not_run = refl

-- and()
and_of_none : ran (engine [] [] [] false) (host (named (codes "f") [] ∷ named (codes "g") [] ∷ []) (Answers (IntV (pos 3)) (Some (IntV (pos 4))) ∷ []) []) [] ((ExprStmt (And (exprs []))) ∷ []) AtStatements [] 3 ≡ ends (WithValue (BoolV true)) [] None [] 3
unfolding ran
and_of_none = refl

-- coalesce()
coalesce_of_none : ran (engine [] [] [] false) (host (named (codes "f") [] ∷ named (codes "g") [] ∷ []) (Answers (IntV (pos 3)) (Some (IntV (pos 4))) ∷ []) []) [] ((ExprStmt (Coalesce (exprs []))) ∷ []) AtStatements [] 3 ≡ ends (WithValue UnitV) [] None [] 3
unfolding ran
coalesce_of_none = refl

-- let a = 5
-- Index!(a, 64)
bit_of_a_variable_out_of_bounds : ran (engine [] [] [] false) (host (named (codes "f") [] ∷ named (codes "g") [] ∷ []) (Answers (IntV (pos 3)) (Some (IntV (pos 4))) ∷ []) []) [] ((Var false false (codes "a") (IntegerConstant (pos 5))) ∷ (ExprStmt (Index (flags false true) (Variable [] (codes "a")) (IntegerConstant (pos 64)))) ∷ []) AtStatements [] 3 ≡ ends (WithThrown (TextV (codes "bit bounds"))) (entry (codes "a") false (IntV (pos 5)) ∷ []) None [] 3
unfolding ran
bit_of_a_variable_out_of_bounds = refl

-- Index!("aé", -1)
last_character : ran (engine [] [] [] false) (host (named (codes "f") [] ∷ named (codes "g") [] ∷ []) (Answers (IntV (pos 3)) (Some (IntV (pos 4))) ∷ []) []) [] ((ExprStmt (Index (flags false true) (StringConstant (97 ∷ 195 ∷ 169 ∷ [])) (IntegerConstant (negsuc 0)))) ∷ []) AtStatements [] 3 ≡ ends (WithValue (CharV 233)) [] None [] 3
unfolding ran
last_character = refl

-- Index!(<0..5>, 0)
index_of_a_range_asks_the_host : ran (engine [] [] [] false) (host (named (codes "f") [] ∷ named (codes "g") [] ∷ []) (Answers (IntV (pos 3)) (Some (IntV (pos 4))) ∷ []) []) [] ((ExprStmt (Index (flags false true) (DynamicConstant (RangeV (pos 0) (pos 5))) (IntegerConstant (pos 0)))) ∷ []) AtStatements [] 3 ≡ ends (WithValue (IntV (pos 3))) [] None (asked (Some (RangeV (pos 0) (pos 5))) (codes "index$get$") ((IntV (pos 0)) ∷ []) ∷ []) 3
unfolding ran
index_of_a_range_asks_the_host = refl

-- Index!(#{a: 1}, 0)
integer_index_of_a_map_asks_the_host : ran (engine [] [] [] false) (host (named (codes "f") [] ∷ named (codes "g") [] ∷ []) (Answers (IntV (pos 3)) (Some (IntV (pos 4))) ∷ []) []) [] ((ExprStmt (Index (flags false true) (MapOf (pair (codes "a") (IntegerConstant (pos 1)) no_pairs) ((codes "a") ∷ [])) (IntegerConstant (pos 0)))) ∷ []) AtStatements [] 3 ≡ ends (WithValue (IntV (pos 3))) [] None (asked (Some (MapV (field (codes "a") (IntV (pos 1)) no_fields))) (codes "index$get$") ((IntV (pos 0)) ∷ []) ∷ []) 3
unfolding ran
integer_index_of_a_map_asks_the_host = refl

-- let m = #{b: 1}
-- Dot(m, a) += 2
-- m
missing_entry_by_operator : ran (engine [] [] [] false) (host (named (codes "f") [] ∷ named (codes "g") [] ∷ []) (Answers (IntV (pos 3)) (Some (IntV (pos 4))) ∷ []) []) [] ((Var false false (codes "m") (MapOf (pair (codes "b") (IntegerConstant (pos 1)) no_pairs) ((codes "b") ∷ []))) ∷ (Assignment (Some Plus) (Dot (flags false false) (Variable [] (codes "m")) (property (codes "get$a") (codes "set$a") (codes "a"))) (IntegerConstant (pos 2))) ∷ (ExprStmt (Variable [] (codes "m"))) ∷ []) AtStatements [] 3 ≡ ends (WithValue (MapV (field (codes "a") (IntV (pos 3)) (field (codes "b") (IntV (pos 1)) no_fields)))) (entry (codes "m") false (MapV (field (codes "a") (IntV (pos 3)) (field (codes "b") (IntV (pos 1)) no_fields))) ∷ []) None (asked None (codes "+") (UnitV ∷ (IntV (pos 2)) ∷ []) ∷ []) 3
unfolding ran
missing_entry_by_operator = refl

-- let m = #{b: 1}
-- Dot?(m, Dot?(a, c)) = 2
-- m
optional_assignment_of_unit : ran (engine [] [] [] false) (host (named (codes "f") [] ∷ named (codes "g") [] ∷ []) (Answers (IntV (pos 3)) (Some (IntV (pos 4))) ∷ []) []) [] ((Var false false (codes "m") (MapOf (pair (codes "b") (IntegerConstant (pos 1)) no_pairs) ((codes "b") ∷ []))) ∷ (Assignment None (Dot (flags true false) (Variable [] (codes "m")) (Dot (flags true false) (property (codes "get$a") (codes "set$a") (codes "a")) (property (codes "get$c") (codes "set$c") (codes "c")))) (IntegerConstant (pos 2))) ∷ (ExprStmt (Variable [] (codes "m"))) ∷ []) AtStatements [] 3 ≡ ends (WithValue (MapV (field (codes "b") (IntV (pos 1)) no_fields))) (entry (codes "m") false (MapV (field (codes "b") (IntV (pos 1)) no_fields)) ∷ []) None [] 3
unfolding ran
optional_assignment_of_unit = refl

-- let a = [1]
-- let b = Index!(a, { a = []; 0 })
index_changes_its_array : ran (engine [] [] [] false) (host (named (codes "f") [] ∷ named (codes "g") [] ∷ []) (Answers (IntV (pos 3)) (Some (IntV (pos 4))) ∷ []) []) [] ((Var false false (codes "a") (ArrayOf (exprs ((IntegerConstant (pos 1)) ∷ [])))) ∷ (Var false false (codes "b") (Index (flags false true) (Variable [] (codes "a")) (BlockExpr (stmts ((Assignment None (Variable [] (codes "a")) (ArrayOf (exprs []))) ∷ (ExprStmt (IntegerConstant (pos 0))) ∷ []))))) ∷ []) AtStatements [] 3 ≡ ends (WithThrown (TextV (codes "array bounds"))) (entry (codes "a") false (ArrayV (values [])) ∷ []) None [] 3
unfolding ran
index_changes_its_array = refl

-- let x = 1
-- Dot(x, g())
-- x
-- fn g() { this = 5; throw 1 }
throwing_method_writes_nothing : ran (engine [] [] [] false) (host (named (codes "f") [] ∷ named (codes "g") [] ∷ []) (Answers (IntV (pos 3)) (Some (IntV (pos 4))) ∷ []) []) ((function None (codes "g") [] ((Assignment None ThisPtr (IntegerConstant (pos 5))) ∷ (Return true false (an_expr (IntegerConstant (pos 1)))) ∷ [])) ∷ []) ((Var false false (codes "x") (IntegerConstant (pos 1))) ∷ (ExprStmt (Dot (flags false false) (Variable [] (codes "x")) (MethodCall (callee [] (codes "g") false NoToken) (exprs [])))) ∷ (ExprStmt (Variable [] (codes "x"))) ∷ []) AtStatements [] 3 ≡ ends (WithThrown (IntV (pos 1))) (entry (codes "x") false (IntV (pos 1)) ∷ []) None [] 2
unfolding ran
throwing_method_writes_nothing = refl

-- let x = 1
-- try { Dot(x, g()) } catch {}
-- x
-- fn g() { this = 5; throw 1 }
caught_throw_of_a_method_writes_nothing : ran (engine [] [] [] false) (host (named (codes "f") [] ∷ named (codes "g") [] ∷ []) (Answers (IntV (pos 3)) (Some (IntV (pos 4))) ∷ []) []) ((function None (codes "g") [] ((Assignment None ThisPtr (IntegerConstant (pos 5))) ∷ (Return true false (an_expr (IntegerConstant (pos 1)))) ∷ [])) ∷ []) ((Var false false (codes "x") (IntegerConstant (pos 1))) ∷ (TryCatch UnitConstant (stmts ((ExprStmt (Dot (flags false false) (Variable [] (codes "x")) (MethodCall (callee [] (codes "g") false NoToken) (exprs [])))) ∷ [])) (stmts [])) ∷ (ExprStmt (Variable [] (codes "x"))) ∷ []) AtStatements [] 3 ≡ ends (WithValue (IntV (pos 1))) (entry (codes "x") false (IntV (pos 1)) ∷ []) None [] 2
unfolding ran
caught_throw_of_a_method_writes_nothing = refl

-- const x = [1]
-- Dot(x, g())
-- x
-- fn g() { this = [1] }
equal_receiver_of_a_constant : ran (engine [] [] [] false) (host (named (codes "f") [] ∷ named (codes "g") [] ∷ []) (Answers (IntV (pos 3)) (Some (IntV (pos 4))) ∷ []) []) ((function None (codes "g") [] ((Assignment None ThisPtr (ArrayOf (exprs ((IntegerConstant (pos 1)) ∷ [])))) ∷ [])) ∷ []) ((Var true false (codes "x") (ArrayOf (exprs ((IntegerConstant (pos 1)) ∷ [])))) ∷ (ExprStmt (Dot (flags false false) (Variable [] (codes "x")) (MethodCall (callee [] (codes "g") false NoToken) (exprs [])))) ∷ (ExprStmt (Variable [] (codes "x"))) ∷ []) AtStatements [] 3 ≡ ends (WithValue (ArrayV (values ((IntV (pos 1)) ∷ [])))) (entry (codes "x") true (ArrayV (values ((IntV (pos 1)) ∷ []))) ∷ []) None [] 2
unfolding ran
equal_receiver_of_a_constant = refl

-- const x = 1
-- x = 1
constant_is_not_assigned_an_equal_value : ran (engine [] [] [] false) (host (named (codes "f") [] ∷ named (codes "g") [] ∷ []) (Answers (IntV (pos 3)) (Some (IntV (pos 4))) ∷ []) []) [] ((Var true false (codes "x") (IntegerConstant (pos 1))) ∷ (Assignment None (Variable [] (codes "x")) (IntegerConstant (pos 1))) ∷ []) AtStatements [] 3 ≡ ends (WithStuck WriteToConstant) (entry (codes "x") true (IntV (pos 1)) ∷ []) None [] 3
unfolding ran
constant_is_not_assigned_an_equal_value = refl

-- const x = 1
-- x += 1
constant_is_not_assigned_by_operator : ran (engine [] [] [] false) (host (named (codes "f") [] ∷ named (codes "g") [] ∷ []) (Answers (IntV (pos 3)) (Some (IntV (pos 4))) ∷ []) []) [] ((Var true false (codes "x") (IntegerConstant (pos 1))) ∷ (Assignment (Some Plus) (Variable [] (codes "x")) (IntegerConstant (pos 1))) ∷ []) AtStatements [] 3 ≡ ends (WithStuck WriteToConstant) (entry (codes "x") true (IntV (pos 1)) ∷ []) None [] 3
unfolding ran
constant_is_not_assigned_by_operator = refl

-- f!()
-- fn f() { break }
break_in_a_body : ran (engine [] [] [] false) (host (named (codes "f") [] ∷ named (codes "g") [] ∷ []) (Answers (IntV (pos 3)) (Some (IntV (pos 4))) ∷ []) []) ((function None (codes "f") [] ((BreakLoop true false no_expr) ∷ [])) ∷ []) ((ExprStmt (FnCall (callee [] (codes "f") true NoToken) (exprs []))) ∷ []) AtStatements [] 3 ≡ ends (WithStuck WrongKind) [] None [] 2
unfolding ran
break_in_a_body = refl

-- Dot(<2..=3>, Dot(a, b))
chain_over_host_values : ran (engine [] [] [] false) (host (named (codes "f") [] ∷ named (codes "g") [] ∷ []) (Answers (IntV (pos 3)) (Some (IntV (pos 4))) ∷ []) []) [] ((ExprStmt (Dot (flags false false) (DynamicConstant (RangeInclusiveV (pos 2) (pos 3))) (Dot (flags false false) (property (codes "get$a") (codes "set$a") (codes "a")) (property (codes "get$b") (codes "set$b") (codes "b"))))) ∷ []) AtStatements [] 3 ≡ ends (WithValue UnitV) [] None (asked (Some (RangeInclusiveV (pos 2) (pos 3))) (codes "get$a") [] ∷ asked (Some (IntV (pos 3))) (codes "get$b") [] ∷ []) 3
unfolding ran
chain_over_host_values = refl

-- let m = #{a: 5}
-- Dot(m, Index!(a, 0))
bit_of_an_entry : ran (engine [] [] [] false) (host (named (codes "f") [] ∷ named (codes "g") [] ∷ []) (Answers (IntV (pos 3)) (Some (IntV (pos 4))) ∷ []) []) [] ((Var false false (codes "m") (MapOf (pair (codes "a") (IntegerConstant (pos 5)) no_pairs) ((codes "a") ∷ []))) ∷ (ExprStmt (Dot (flags false false) (Variable [] (codes "m")) (Index (flags false true) (property (codes "get$a") (codes "set$a") (codes "a")) (IntegerConstant (pos 0))))) ∷ []) AtStatements [] 3 ≡ ends (WithValue (BoolV true)) (entry (codes "m") false (MapV (field (codes "a") (IntV (pos 5)) no_fields)) ∷ []) None [] 3
unfolding ran
bit_of_an_entry = refl

-- let x = 1
-- let y = { let x = 2; x }
-- +(x, y)
block_takes_its_names_away : ran (engine [] [] [] false) (host (named (codes "f") [] ∷ named (codes "g") [] ∷ []) (Answers (IntV (pos 3)) (Some (IntV (pos 4))) ∷ []) []) [] ((Var false false (codes "x") (IntegerConstant (pos 1))) ∷ (Var false false (codes "y") (BlockExpr (stmts ((Var false false (codes "x") (IntegerConstant (pos 2))) ∷ (ExprStmt (Variable [] (codes "x"))) ∷ [])))) ∷ (ExprStmt (FnCall (callee [] (codes "+") false (OfOperator Plus)) (exprs ((Variable [] (codes "x")) ∷ (Variable [] (codes "y")) ∷ [])))) ∷ []) AtStatements [] 3 ≡ ends (WithValue (IntV (pos 3))) (entry (codes "x") false (IntV (pos 1)) ∷ entry (codes "y") false (IntV (pos 2)) ∷ []) None [] 3
unfolding ran
block_takes_its_names_away = refl
