-- Runs of small scripts, computed from the definitions alone.
use Rattle.std.specs.Prelude.{◌≡◌, ℕ, true, false, List, [], ◌∷◌, Some, None, pos, negsuc, codes, refl}
use Prim.Native.String.{String}
use Rattle.rhai_base.specs.Value.{Value, UnitV, BoolV, TextV, ArrayV, MapV, values, field, no_fields, text_of, type_name}
use Rattle.theory_meaning.specs.Act.{HostCall, ScopeEntry, Unbound, WrongKind, WriteToConstant, Answers}
use Rattle.rhai_base.specs.Operators.{Plus, Divide, Minus, Multiply, LessOrEqual, Not, computed}
use Rattle.theory_meaning.specs.Engine.{Engine}
use Rattle.theory_meaning.specs.Tree.{NoToken, FnCall, Function, ExclusiveInt, InclusiveInt, Expr, Stmt, Arms, no_arms, arm, IntegerConstant, BoolConstant, UnitConstant, StringConstant, InterpolatedString, Variable, ThisPtr, BlockExpr, Index, Assignment, ExprStmt, Block, For, While, Do, If, Switch, TryCatch, Coalesce, BreakLoop, Return, no_expr, an_expr, no_stmts, no_exprs, stmts, exprs}
use Rattle.theory_meaning.specs.Elements.{character}
use Rattle.theory_meaning.specs.Control.{texts_joined}
use Rattle.theory_meaning.specs.Run.{Report, End, AtStatements, WithValue, WithThrown, WithStuck, WithoutTurns}
use Rattle.worked_meaning.specs.Terms.{i, run, World, int, var, op, fn, let', const', array, at, dot, prop, meth, map_one, program_answer, program_host, nothing_set, world, world_with, asked, var_is, const_is}

abbrev pub report : End → List ScopeEntry → List HostCall → ℕ → Report
report e names cs n = record { ended = e; variables = names; exports = []; this = None; calls = cs; turns = n }

-- the statements, with no names, and what the examples compute with
unfoldable pub ran_in : World → List Stmt → ℕ → Report
unfolding run computed program_answer character text_of texts_joined
ran_in w ss n = run w (stmts ss) AtStatements [] n

unfoldable pub ran : List Stmt → ℕ → Report
unfolding ran_in
ran = ran_in world

abbrev pub gives : Value → End
gives v = WithValue v

abbrev pub throws : String → End
throws t = WithThrown (TextV (codes t))

index_from_the_end : ran (ExprStmt (at (array (int 1 ∷ int 2 ∷ int 3 ∷ [])) (IntegerConstant (negsuc 0))) ∷ []) 0 ≡ report (gives (i 3)) [] [] 0
unfolding ran
index_from_the_end = refl

lowest_bit : ran (ExprStmt (at (int 5) (int 0)) ∷ []) 0 ≡ report (gives (BoolV true)) [] [] 0
unfolding ran
lowest_bit = refl

second_bit : ran (ExprStmt (at (int 5) (int 1)) ∷ []) 0 ≡ report (gives (BoolV false)) [] [] 0
unfolding ran
second_bit = refl

lowest_bit_from_the_highest : ran (ExprStmt (at (int 5) (IntegerConstant (negsuc 63))) ∷ []) 0 ≡ report (gives (BoolV true)) [] [] 0
unfolding ran
lowest_bit_from_the_highest = refl

bit_out_of_bounds : ran (ExprStmt (at (int 5) (int 64)) ∷ []) 0 ≡ report (throws "bit bounds") [] [] 0
unfolding ran
bit_out_of_bounds = refl

coalesce_of_units : ran (ExprStmt (Coalesce (exprs (UnitConstant ∷ UnitConstant ∷ []))) ∷ []) 0 ≡ report (gives UnitV) [] [] 0
unfolding ran
coalesce_of_units = refl

sum_by_assignment : ran (let' "x" (int 1) ∷ Assignment None (var "x") (op Plus (var "x" ∷ int 2 ∷ [])) ∷ ExprStmt (var "x") ∷ []) 0
    ≡ report (gives (i 3)) (var_is "x" (i 3) ∷ []) [] 0
unfolding ran
sum_by_assignment = refl

sum_by_assigning : ran (let' "x" (int 1) ∷ Assignment (Some Plus) (var "x") (int 2) ∷ ExprStmt (var "x") ∷ []) 0
    ≡ report (gives (i 3)) (var_is "x" (i 3) ∷ []) [] 0
unfolding ran
sum_by_assigning = refl

abbrev sets_five : Expr
sets_five = BlockExpr (stmts (Assignment None (var "x") (int 5) ∷ ExprStmt (int 1) ∷ []))

left_operand_is_read_first : ran (let' "x" (int 1) ∷ Assignment None (var "x") (op Plus (var "x" ∷ sets_five ∷ [])) ∷ ExprStmt (var "x") ∷ []) 0
    ≡ report (gives (i 2)) (var_is "x" (i 2) ∷ []) [] 0
unfolding ran
left_operand_is_read_first = refl

empty_block_is_unit : ran (ExprStmt (int 42) ∷ Block no_stmts ∷ []) 0 ≡ report (gives UnitV) [] [] 0
unfolding ran
empty_block_is_unit = refl

abbrev shadow : List Stmt
shadow = const' "x" (int 42) ∷ For (codes "x") None (array (int 1 ∷ int 2 ∷ [])) (stmts (ExprStmt (fn "print" (var "x" ∷ [])) ∷ [])) ∷ []

loop_name_shadows : ran shadow 10
    ≡ report (gives UnitV) (const_is "x" (i 42) ∷ []) (asked "print" (i 1 ∷ []) ∷ asked "print" (i 2 ∷ []) ∷ []) 8
unfolding ran
loop_name_shadows = refl

abbrev empty_array : Value
empty_array = ArrayV (values [])

abbrev pushes_one : HostCall
pushes_one = record { name = codes "push"; receiver = Some empty_array; arguments = i 1 ∷ [] }

block_is_no_place : ran (let' "a" (array []) ∷ ExprStmt (dot (BlockExpr (stmts (ExprStmt (var "a") ∷ []))) (meth "push" (int 1 ∷ []))) ∷ ExprStmt (var "a") ∷ []) 0
    ≡ report (gives empty_array) (var_is "a" empty_array ∷ []) (pushes_one ∷ []) 0
unfolding ran
block_is_no_place = refl

-- the same with the variable itself as base
method_writes_to_its_place : ran (let' "a" (array []) ∷ ExprStmt (dot (var "a") (meth "push" (int 1 ∷ []))) ∷ ExprStmt (var "a") ∷ []) 0
    ≡ report (gives (ArrayV (values (i 1 ∷ [])))) (var_is "a" (ArrayV (values (i 1 ∷ []))) ∷ []) (pushes_one ∷ []) 0
unfolding ran
method_writes_to_its_place = refl

abbrev answers : List ℕ → Arms
answers [] = no_arms
answers (n ∷ ns) = arm (BoolConstant true) (int n) (answers ns)

abbrev three_ways : Expr → Stmt
three_ways e = Switch e (answers (10 ∷ 20 ∷ 99 ∷ [])) (record { cases = record { value = i 1; arms = 0 ∷ [] } ∷ record { value = i 2; arms = 1 ∷ [] } ∷ []; ranges = []; default = Some 2 })

first_case : ran (three_ways (int 1) ∷ []) 0 ≡ report (gives (i 10)) [] [] 0
unfolding ran
first_case = refl

second_case : ran (three_ways (int 2) ∷ []) 0 ≡ report (gives (i 20)) [] [] 0
unfolding ran
second_case = refl

default_case : ran (three_ways (int 3) ∷ []) 0 ≡ report (gives (i 99)) [] [] 0
unfolding ran
default_case = refl

abbrev in_ranges : ℕ → Stmt
in_ranges n = Switch (int n) (answers (10 ∷ 20 ∷ 30 ∷ 99 ∷ []))
    (record { cases = record { value = i 1; arms = 0 ∷ [] } ∷ []; ranges = record { range = ExclusiveInt (pos 5) (pos 8); arm = 1 } ∷ record { range = InclusiveInt (pos 8) (pos 10); arm = 2 } ∷ []; default = Some 3 })

ranges_after_cases : (ran (in_ranges 1 ∷ []) 0).ended ∷ (ran (in_ranges 5 ∷ []) 0).ended ∷ (ran (in_ranges 7 ∷ []) 0).ended ∷ (ran (in_ranges 8 ∷ []) 0).ended ∷ (ran (in_ranges 10 ∷ []) 0).ended ∷ (ran (in_ranges 11 ∷ []) 0).ended ∷ []
    ≡ gives (i 10) ∷ gives (i 20) ∷ gives (i 20) ∷ gives (i 30) ∷ gives (i 30) ∷ gives (i 99) ∷ []
unfolding ran
ranges_after_cases = refl

abbrev pub guarded : Stmt
guarded = Switch (array (int 1 ∷ [])) (arm (fn "f" []) (int 1) (answers (2 ∷ 3 ∷ [])))
    (record { cases = record { value = ArrayV (values (i 1 ∷ [])); arms = 0 ∷ 1 ∷ [] } ∷ []; ranges = []; default = Some 2 })

guarded_case_answers : ran (guarded ∷ []) 0 ≡ report (gives (i 1)) [] (asked "f" [] ∷ []) 0
unfolding ran
guarded_case_answers = refl

abbrev says_false : World
says_false = record { engine = nothing_set; host = record { answer = λ past c. Answers (BoolV false) None; module_value = λ x. None; module_of = λ p. None; text = type_name }; functions = [] }

guarded_case_passes : ran_in says_false (guarded ∷ []) 0 ≡ report (gives (i 2)) [] (asked "f" [] ∷ []) 0
unfolding ran
guarded_case_passes = refl

division_by_zero : ran (ExprStmt (op Divide (int 1 ∷ int 0 ∷ [])) ∷ []) 0 ≡ report (throws "arithmetic") [] [] 0
unfolding ran
division_by_zero = refl

sum_overflows : ran (ExprStmt (op Plus (int 9223372036854775807 ∷ int 1 ∷ [])) ∷ []) 0 ≡ report (throws "arithmetic") [] [] 0
unfolding ran
sum_overflows = refl

sum_fits : ran (ExprStmt (op Plus (int 9223372036854775806 ∷ int 1 ∷ [])) ∷ []) 0 ≡ report (gives (i 9223372036854775807)) [] [] 0
unfolding ran
sum_fits = refl

abbrev endless : Stmt
endless = While UnitConstant no_stmts

endless_loop : ran (endless ∷ ExprStmt (fn "print" (int 1 ∷ [])) ∷ []) 5 ≡ report WithoutTurns [] [] 0
unfolding ran
endless_loop = refl

abbrev overriding : Engine
overriding = record nothing_set { overrides = record { name = codes "!"; types = codes "bool" ∷ [] } ∷ record { name = codes "+"; types = codes "i64" ∷ codes "i64" ∷ [] } ∷ [] }

abbrev overridden : World
overridden = record { engine = overriding; host = program_host; functions = [] }

negation_overridden : ran_in overridden (ExprStmt (op Not (BoolConstant true ∷ [])) ∷ []) 0 ≡ report (gives UnitV) [] (asked "!" (BoolV true ∷ []) ∷ []) 0
unfolding ran
negation_overridden = refl

sum_overridden : ran_in overridden (ExprStmt (op Plus (int 1 ∷ int 2 ∷ [])) ∷ []) 0 ≡ report (gives (TextV (codes "12"))) [] (asked "+" (i 1 ∷ i 2 ∷ []) ∷ []) 0
unfolding ran
sum_overridden = refl

guard_of_unit_is_stuck : ran (const' "c" UnitConstant ∷ While (var "c") no_stmts ∷ []) 5 ≡ report (WithStuck WrongKind) (const_is "c" UnitV ∷ []) [] 5
unfolding ran
guard_of_unit_is_stuck = refl

-- fn foo(n) { `hello${n}` } foo("!")
abbrev pub foo : Function
foo = record { name = codes "foo"; this_type = None; params = codes "n" ∷ []; body = stmts (ExprStmt (InterpolatedString (exprs (StringConstant (codes "hello") ∷ var "n" ∷ []))) ∷ []) }

function_joins_text : ran_in (world_with (foo ∷ [])) (ExprStmt (fn "foo" (StringConstant (codes "!") ∷ [])) ∷ []) 3 ≡ report (gives (TextV (codes "hello!"))) [] [] 2
unfolding ran
function_joins_text = refl

constants_and_variables : ran (const' "A" (op Plus (int 40 ∷ int 2 ∷ [])) ∷ let' "b" (int 123) ∷ const' "B" (op Multiply (var "b" ∷ var "A" ∷ [])) ∷ const' "C" (int 999) ∷ Assignment None (var "b") (op Plus (var "A" ∷ var "C" ∷ [])) ∷ Block (stmts (const' "Z" (int 0) ∷ ExprStmt (fn "print" (var "Z" ∷ [])) ∷ [])) ∷ []) 0
    ≡ report (gives UnitV) (const_is "A" (i 42) ∷ var_is "b" (i 1041) ∷ const_is "B" (i 5166) ∷ const_is "C" (i 999) ∷ []) (asked "print" (i 0 ∷ []) ∷ []) 0
unfolding ran
constants_and_variables = refl

loop_left_by_a_value : ran (While UnitConstant (stmts (BreakLoop true false (an_expr (int 5)) ∷ [])) ∷ Return false false no_expr ∷ []) 3 ≡ report (gives UnitV) [] [] 2
unfolding ran
loop_left_by_a_value = refl

catch_name_shadows : ran (const' "e" (int 1) ∷ TryCatch (var "e") (stmts (Return true false (an_expr (int 2)) ∷ [])) (stmts (ExprStmt (fn "print" (var "e" ∷ [])) ∷ [])) ∷ []) 0
    ≡ report (gives UnitV) (const_is "e" (i 1) ∷ []) (asked "print" (i 2 ∷ []) ∷ []) 0
unfolding ran
catch_name_shadows = refl

abbrev until_true : Stmt
until_true = Do true false (BoolConstant true) (stmts (ExprStmt (fn "f" []) ∷ []))

until_ends : ran (until_true ∷ []) 1 ≡ report (gives UnitV) [] (asked "f" [] ∷ []) 0
unfolding ran
until_ends = refl

body_takes_a_turn_first : ran (until_true ∷ []) 0 ≡ report WithoutTurns [] [] 0
unfolding ran
body_takes_a_turn_first = refl

coalesce_is_no_place : ran (let' "a" (array []) ∷ ExprStmt (dot (Coalesce (exprs (UnitConstant ∷ var "a" ∷ []))) (meth "push" (int 1 ∷ []))) ∷ ExprStmt (var "a") ∷ []) 0
    ≡ report (gives empty_array) (var_is "a" empty_array ∷ []) (pushes_one ∷ []) 0
unfolding ran
coalesce_is_no_place = refl

abbrev pub one_field : ℕ → Value
one_field n = MapV (field (codes "a") (i n) no_fields)

entry_of_a_constant : ran (const' "m" (map_one "a" (int 1)) ∷ Assignment None (dot (var "m") (prop "a")) (int 2) ∷ []) 0
    ≡ report (WithStuck WriteToConstant) (const_is "m" (one_field 1) ∷ []) [] 0
unfolding ran
entry_of_a_constant = refl

entry_of_a_variable_by_assigning : ran (let' "m" (map_one "a" (int 1)) ∷ Assignment (Some Plus) (dot (var "m") (prop "a")) (int 2) ∷ []) 0
    ≡ report (gives UnitV) (var_is "m" (one_field 3) ∷ []) [] 0
unfolding ran
entry_of_a_variable_by_assigning = refl

qualified_name_is_no_local : ran (const' "m" (map_one "a" (int 1)) ∷ ExprStmt (dot (Variable (codes "ns" ∷ []) (codes "m")) (prop "a")) ∷ []) 0
    ≡ report (WithStuck Unbound) (const_is "m" (one_field 1) ∷ []) [] 0
unfolding ran
qualified_name_is_no_local = refl

case_hides_ranges : (ran (Switch (int 6) (arm (BoolConstant false) (int 1) (answers (2 ∷ 3 ∷ []))) (record { cases = record { value = i 6; arms = 0 ∷ [] } ∷ []; ranges = record { range = ExclusiveInt (pos 5) (pos 8); arm = 1 } ∷ []; default = Some 2 }) ∷ []) 0).ended ≡ gives (i 3)
unfolding ran
case_hides_ranges = refl

abbrev pub fact : Function
fact = record { name = codes "fact"; this_type = None; params = codes "n" ∷ []; body = stmts (If (op LessOrEqual (var "n" ∷ int 1 ∷ [])) (stmts (ExprStmt (int 1) ∷ [])) (stmts (ExprStmt (op Multiply (var "n" ∷ fn "fact" (op Minus (var "n" ∷ int 1 ∷ []) ∷ []) ∷ [])) ∷ [])) ∷ []) }

abbrev pub fact_of : ℕ → List Stmt
fact_of n = ExprStmt (fn "fact" (int n ∷ [])) ∷ []

recursion : ran_in (world_with (fact ∷ [])) (fact_of 5) 5 ≡ report (gives (i 120)) [] [] 0
unfolding ran
recursion = refl

recursion_out_of_turns : ran_in (world_with (fact ∷ [])) (fact_of 5) 4 ≡ report WithoutTurns [] [] 0
unfolding ran
recursion_out_of_turns = refl

abbrev reads : String → String → Function
reads f x = record { name = codes f; this_type = None; params = []; body = stmts (ExprStmt (var x) ∷ []) }

-- fn f() { c } f() + c, with the record's constant c = 1 and the scope's c = 2
scope_constant_before_record : run (record { engine = record nothing_set { constants = record { name = codes "c"; value = i 1 } ∷ [] }; host = program_host; functions = reads "f" "c" ∷ [] })
    (stmts (ExprStmt (op Plus (fn "f" [] ∷ var "c" ∷ [])) ∷ [])) AtStatements (const_is "c" (i 2) ∷ []) 1
    ≡ report (gives (i 3)) (const_is "c" (i 2) ∷ []) [] 0
unfolding ran
scope_constant_before_record = refl

captured_scope : run (world_with (reads "f" "k" ∷ [])) (stmts (let' "k" (int 2) ∷ ExprStmt (FnCall (record { namespace = []; name = codes "f"; captures = true; token = NoToken }) no_exprs) ∷ [])) AtStatements (const_is "k" (i 1) ∷ []) 1
    ≡ report (gives (i 2)) (const_is "k" (i 1) ∷ var_is "k" (i 2) ∷ []) [] 0
unfolding ran
captured_scope = refl

body_does_not_see_the_scope : (ran_in (world_with (reads "f" "c" ∷ [])) (ExprStmt (fn "f" []) ∷ []) 1).ended ≡ WithStuck Unbound
unfolding ran
body_does_not_see_the_scope = refl

-- fn x(x) { try { throw x } catch (x) { return x + 1 } } const x = 1; x(x)
abbrev fn_x : Function
fn_x = record { name = codes "x"; this_type = None; params = codes "x" ∷ []; body = stmts (TryCatch (var "x") (stmts (Return true false (an_expr (var "x")) ∷ [])) (stmts (Return false false (an_expr (op Plus (var "x" ∷ int 1 ∷ []))) ∷ [])) ∷ []) }

return_from_a_branch : ran_in (world_with (fn_x ∷ [])) (const' "x" (int 1) ∷ ExprStmt (fn "x" (var "x" ∷ [])) ∷ []) 1 ≡ report (gives (i 2)) (const_is "x" (i 1) ∷ []) [] 0
unfolding ran
return_from_a_branch = refl

loop_name_shadows_counter : ran (const' "x" (int 1) ∷ For (codes "x") (Some (codes "x")) (array (int 7 ∷ [])) (stmts (ExprStmt (fn "print" (var "x" ∷ [])) ∷ [])) ∷ []) 1
    ≡ report (gives UnitV) (const_is "x" (i 1) ∷ []) (asked "print" (i 7 ∷ []) ∷ []) 0
unfolding ran
loop_name_shadows_counter = refl

nested_endless_loops : ran (While UnitConstant (stmts (While UnitConstant (stmts (If (BoolConstant false) (stmts (BreakLoop true false no_expr ∷ [])) no_stmts ∷ [])) ∷ [])) ∷ []) 7 ≡ report WithoutTurns [] [] 0
unfolding ran
nested_endless_loops = refl

-- fn array.double() { this[0] *= 2; this } let a = [[3]]; a[0].double()
abbrev pub double : Function
double = record { name = codes "double"; this_type = Some (codes "array"); params = []; body = stmts (Assignment (Some Multiply) (at ThisPtr (int 0)) (int 2) ∷ ExprStmt (at ThisPtr (int 0)) ∷ []) }

method_writes_to_an_element : ran_in (world_with (double ∷ [])) (let' "a" (array (array (int 3 ∷ []) ∷ [])) ∷ ExprStmt (Index (record { negated = false; breaks = false; exported = false }) (var "a") (dot (int 0) (meth "double" []))) ∷ []) 1
    ≡ report (gives (i 6)) (var_is "a" (ArrayV (values (ArrayV (values (i 6 ∷ [])) ∷ []))) ∷ []) [] 0
unfolding ran
method_writes_to_an_element = refl
