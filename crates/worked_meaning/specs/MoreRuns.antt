-- More runs: what the engine's record fixes, calls, and scripts that are optimised elsewhere, as they are written.
use Rattle.std.specs.Prelude.{◌≡◌, ℕ, true, false, List, [], ◌∷◌, Some, None, pos, codes, refl}
use Rattle.rhai_base.specs.Value.{UnitV, BoolV, TextV, ArrayV, values, type_name}
use Rattle.rhai_base.specs.Operators.{EqualTo, Plus, Minus, Multiply, Divide}
use Rattle.theory_meaning.specs.Act.{AnswersThrow, WrongKind}
use Rattle.theory_meaning.specs.Engine.{Engine}
use Rattle.theory_meaning.specs.Run.{WithThrown, WithStuck, WithoutTurns}
use Rattle.theory_meaning.specs.Tree.{NoToken, BoolConstant, StringConstant, UnitConstant, DynamicConstant, FnCall, And, Or, Coalesce, Function, ExclusiveInt, Stmt, If, Switch, While, For, TryCatch, ExprStmt, Return, Assignment, an_expr, arms, no_stmts, no_exprs, exprs, stmts}
use Rattle.worked_meaning.specs.Terms.{i, World, int, var, op, fn, let', const', array, dot, prop, meth, map_one, program_host, nothing_set, world_with, asked, var_is, const_is}
use Rattle.worked_meaning.specs.Runs.{ran_in, ran, report, gives}

abbrev in_engine : Engine → World
in_engine e = record { engine = e; host = program_host; functions = [] }

-- ---- the record

-- two constants c = 1 and c = 2: the later one
later_constant : ran_in (in_engine (record nothing_set { constants = record { name = codes "c"; value = i 1 } ∷ record { name = codes "c"; value = i 2 } ∷ [] })) (ExprStmt (var "c") ∷ []) 0 ≡ report (gives (i 2)) [] [] 0
unfolding ran
later_constant = refl

-- let c = 3; c
variable_before_record : ran_in (in_engine (record nothing_set { constants = record { name = codes "c"; value = i 1 } ∷ [] })) (let' "c" (int 3) ∷ ExprStmt (var "c") ∷ []) 0 ≡ report (gives (i 3)) (var_is "c" (i 3) ∷ []) [] 0
unfolding ran
variable_before_record = refl

abbrev names_types : Engine
names_types = record nothing_set { type_names = record { from = codes "i64"; to = codes "Integer" } ∷ [] }

-- type_of(1), 1.type_of(), type_of("a")
mapped_type_name : ran_in (in_engine names_types) (ExprStmt (array (fn "type_of" (int 1 ∷ []) ∷ dot (int 1) (meth "type_of" []) ∷ fn "type_of" (StringConstant (codes "a") ∷ []) ∷ [])) ∷ []) 0 ≡ report (gives (ArrayV (values (TextV (codes "Integer") ∷ TextV (codes "Integer") ∷ TextV (codes "string") ∷ [])))) [] [] 0
unfolding ran
mapped_type_name = refl

-- `1 + 2`, overridden, with fast operators
fast_operators : ran_in (in_engine (record nothing_set { overrides = record { name = codes "+"; types = codes "i64" ∷ codes "i64" ∷ [] } ∷ []; fast_operators = true })) (ExprStmt (op Plus (int 1 ∷ int 2 ∷ [])) ∷ []) 0 ≡ report (gives (i 3)) [] [] 0
unfolding ran
fast_operators = refl

-- let x = 1; x += 2, where `+=` is overridden, and where `+` is
abbrev adds_two : List Stmt
adds_two = let' "x" (int 1) ∷ Assignment (Some Plus) (var "x") (int 2) ∷ []

assigning_overridden : ran_in (in_engine (record nothing_set { overrides = record { name = codes "+="; types = codes "i64" ∷ codes "i64" ∷ [] } ∷ [] })) adds_two 0 ≡ report (gives UnitV) (var_is "x" UnitV ∷ []) (asked "+=" (i 1 ∷ i 2 ∷ []) ∷ []) 0
unfolding ran
assigning_overridden = refl

base_overridden : ran_in (in_engine (record nothing_set { overrides = record { name = codes "+"; types = codes "i64" ∷ codes "i64" ∷ [] } ∷ [] })) adds_two 0 ≡ report (gives UnitV) (var_is "x" (TextV (codes "12")) ∷ []) (asked "+" (i 1 ∷ i 2 ∷ []) ∷ []) 0
unfolding ran
base_overridden = refl

-- with fast operators the table answers x += 2 though `+=` is overridden; x += true, which it has not, is the host's
abbrev fast_assigning : List (List ℕ) → World
fast_assigning types = in_engine (record nothing_set { overrides = record { name = codes "+="; types = types } ∷ []; fast_operators = true })

assigning_fast : ran_in (fast_assigning (codes "i64" ∷ codes "i64" ∷ [])) adds_two 0 ≡ report (gives UnitV) (var_is "x" (i 3) ∷ []) [] 0
unfolding ran
assigning_fast = refl

assigning_without_entry : ran_in (fast_assigning (codes "i64" ∷ codes "bool" ∷ [])) (let' "x" (int 1) ∷ Assignment (Some Plus) (var "x") (BoolConstant true) ∷ []) 0 ≡ report (gives UnitV) (var_is "x" UnitV ∷ []) (asked "+=" (i 1 ∷ BoolV true ∷ []) ∷ []) 0
unfolding ran
assigning_without_entry = refl

-- ---- calls

-- fn minus(a, b) { a - b }
abbrev minus : Function
minus = record { name = codes "minus"; this_type = None; params = codes "a" ∷ codes "b" ∷ []; body = stmts (ExprStmt (op Minus (var "a" ∷ var "b" ∷ [])) ∷ []) }

-- call(curry(Fn("minus"), 9), 2)
curried_values_first : ran_in (world_with (minus ∷ [])) (ExprStmt (fn "call" (fn "curry" (fn "Fn" (StringConstant (codes "minus") ∷ []) ∷ int 9 ∷ []) ∷ int 2 ∷ [])) ∷ []) 1 ≡ report (gives (i 7)) [] [] 0
unfolding ran
curried_values_first = refl

-- minus(9, 2)
arguments_in_order : ran_in (world_with (minus ∷ [])) (ExprStmt (fn "minus" (int 9 ∷ int 2 ∷ [])) ∷ []) 1 ≡ report (gives (i 7)) [] [] 0
unfolding ran
arguments_in_order = refl

-- a call takes a turn: with none left its body doesn't begin
call_without_turns : ran_in (world_with (minus ∷ [])) (ExprStmt (fn "minus" (int 9 ∷ int 2 ∷ [])) ∷ []) 0 ≡ report WithoutTurns [] [] 0
unfolding ran
call_without_turns = refl

-- is_shared(1); Fn(1); f::g(1)
never_shared : ran (ExprStmt (fn "is_shared" (int 1 ∷ [])) ∷ []) 0 ≡ report (gives (BoolV false)) [] [] 0
unfolding ran
never_shared = refl

pointer_of_no_text : ran (ExprStmt (fn "Fn" (int 1 ∷ [])) ∷ []) 0 ≡ report (WithStuck WrongKind) [] [] 0
unfolding ran
pointer_of_no_text = refl

qualified_call : ran_in (world_with (minus ∷ [])) (ExprStmt (FnCall (record { namespace = codes "a" ∷ codes "b" ∷ []; name = codes "minus"; captures = false; token = NoToken }) (exprs (int 1 ∷ int 2 ∷ []))) ∷ []) 1 ≡ report (gives UnitV) [] (asked "a::b::minus" (i 1 ∷ i 2 ∷ []) ∷ []) 1
unfolding ran
qualified_call = refl

-- the variable of a captured scope is a copy: fn f() { k = 3 } let k = 2; f!()
captured_copy : ran_in (world_with (record { name = codes "f"; this_type = None; params = []; body = stmts (Assignment None (var "k") (int 3) ∷ []) } ∷ [])) (let' "k" (int 2) ∷ ExprStmt (FnCall (record { namespace = []; name = codes "f"; captures = true; token = NoToken }) no_exprs) ∷ []) 1 ≡ report (gives UnitV) (var_is "k" (i 2) ∷ []) [] 0
unfolding ran
captured_copy = refl

-- ---- small scripts

abbrev pub first : List Stmt
first = If (op EqualTo (op Plus (int 1 ∷ int 1 ∷ []) ∷ int 2 ∷ [])) (stmts (ExprStmt (op Plus (int 40 ∷ int 2 ∷ [])) ∷ [])) (stmts (ExprStmt (op Divide (int 1 ∷ int 0 ∷ [])) ∷ [])) ∷ []

first_script : ran first 0 ≡ report (gives (i 42)) [] [] 0
unfolding ran
first_script = refl

-- return 42;
return_at_top : ran (Return false false (an_expr (int 42)) ∷ []) 0 ≡ report (gives (i 42)) [] [] 0
unfolding ran
return_at_top = refl

-- if c { return 42; } f()
return_in_a_block : ran (const' "c" (BoolConstant true) ∷ If (var "c") (stmts (Return false false (an_expr (int 42)) ∷ [])) no_stmts ∷ ExprStmt (fn "f" []) ∷ []) 0 ≡ report (gives (i 42)) (const_is "c" (BoolV true) ∷ []) [] 0
unfolding ran
return_in_a_block = refl

-- 1; f(); 2; 3
value_of_the_last : ran (ExprStmt (int 1) ∷ ExprStmt (fn "f" []) ∷ ExprStmt (int 2) ∷ ExprStmt (int 3) ∷ []) 0 ≡ report (gives (i 3)) [] (asked "f" [] ∷ []) 0
unfolding ran
value_of_the_last = refl

-- try { 1; 2 } catch { f() }
try_is_unit : ran (TryCatch UnitConstant (stmts (ExprStmt (int 1) ∷ ExprStmt (int 2) ∷ [])) (stmts (ExprStmt (fn "f" []) ∷ [])) ∷ []) 0 ≡ report (gives UnitV) [] [] 0
unfolding ran
try_is_unit = refl

-- f() && false && g(), where f answers true
and_stops : ran (ExprStmt (And (exprs (fn "f" [] ∷ BoolConstant false ∷ fn "g" [] ∷ []))) ∷ []) 0 ≡ report (gives (BoolV false)) [] (asked "f" [] ∷ []) 0
unfolding ran
and_stops = refl

or_stops : ran (ExprStmt (Or (exprs (BoolConstant false ∷ fn "f" [] ∷ fn "g" [] ∷ []))) ∷ []) 0 ≡ report (gives (BoolV true)) [] (asked "f" [] ∷ []) 0
unfolding ran
or_stops = refl

or_of_none : ran (ExprStmt (Or no_exprs) ∷ []) 0 ≡ report (gives (BoolV false)) [] [] 0
unfolding ran
or_of_none = refl

-- g() ?? 2 ?? f(), where g answers unit
coalesce_stops : ran (ExprStmt (Coalesce (exprs (fn "g" [] ∷ int 2 ∷ fn "f" [] ∷ []))) ∷ []) 0 ≡ report (gives (i 2)) [] (asked "g" [] ∷ []) 0
unfolding ran
coalesce_stops = refl

-- while false { f() } g()
while_false : ran (While (BoolConstant false) (stmts (ExprStmt (fn "f" []) ∷ [])) ∷ ExprStmt (fn "g" []) ∷ []) 0 ≡ report (gives UnitV) [] (asked "g" [] ∷ []) 0
unfolding ran
while_false = refl

-- for x in [1, 2, 3] {} 42
abbrev three_rounds : List Stmt
three_rounds = For (codes "x") None (array (int 1 ∷ int 2 ∷ int 3 ∷ [])) no_stmts ∷ ExprStmt (int 42) ∷ []

rounds_take_turns : ran three_rounds 3 ≡ report (gives (i 42)) [] [] 0
unfolding ran
rounds_take_turns = refl

rounds_out_of_turns : ran three_rounds 0 ≡ report WithoutTurns [] [] 0
unfolding ran
rounds_out_of_turns = refl

-- switch [1] { [1] => f(), [1] if g() => 2 }
first_arm_answers : ran (Switch (array (int 1 ∷ [])) (arms ((BoolConstant true, fn "f" []) ∷ (fn "g" [], int 2) ∷ [])) (record { cases = record { value = ArrayV (values (i 1 ∷ [])); arms = 0 ∷ 1 ∷ [] } ∷ []; ranges = []; default = None }) ∷ []) 0 ≡ report (gives (BoolV true)) [] (asked "f" [] ∷ []) 0
unfolding ran
first_arm_answers = refl

-- switch 2 { 1 => f(), 2 => g() }
case_of_a_constant : ran (Switch (int 2) (arms ((BoolConstant true, fn "f" []) ∷ (BoolConstant true, fn "g" []) ∷ [])) (record { cases = record { value = i 1; arms = 0 ∷ [] } ∷ record { value = i 2; arms = 1 ∷ [] } ∷ []; ranges = []; default = None }) ∷ []) 0 ≡ report (gives UnitV) [] (asked "g" [] ∷ []) 0
unfolding ran
case_of_a_constant = refl

-- switch "a" { "a" if f() => 1, _ => 2 }
guarded_text_case : ran (Switch (StringConstant (codes "a")) (arms ((fn "f" [], int 1) ∷ (BoolConstant true, int 2) ∷ [])) (record { cases = record { value = TextV (codes "a"); arms = 0 ∷ [] } ∷ []; ranges = []; default = Some 1 }) ∷ []) 0 ≡ report (gives (i 1)) [] (asked "f" [] ∷ []) 0
unfolding ran
guarded_text_case = refl

-- switch true { _ => 3 }; switch () { () => 1 }; switch 7 { 5..8 => 1, _ => 2 }
default_alone : ran (Switch (BoolConstant true) (arms ((BoolConstant true, int 3) ∷ [])) (record { cases = []; ranges = []; default = Some 0 }) ∷ []) 0 ≡ report (gives (i 3)) [] [] 0
unfolding ran
default_alone = refl

case_of_unit : ran (Switch UnitConstant (arms ((BoolConstant true, int 1) ∷ [])) (record { cases = record { value = UnitV; arms = 0 ∷ [] } ∷ []; ranges = []; default = None }) ∷ []) 0 ≡ report (gives (i 1)) [] [] 0
unfolding ran
case_of_unit = refl

range_before_default : ran (Switch (int 7) (arms ((BoolConstant true, int 1) ∷ (BoolConstant true, int 2) ∷ [])) (record { cases = []; ranges = record { range = ExclusiveInt (pos 5) (pos 8); arm = 0 } ∷ []; default = Some 1 }) ∷ []) 0 ≡ report (gives (i 1)) [] [] 0
unfolding ran
range_before_default = refl

-- #{a: 1}.c
missing_entry : ran (ExprStmt (dot (map_one "a" (int 1)) (prop "c")) ∷ []) 0 ≡ report (gives UnitV) [] [] 0
unfolding ran
missing_entry = refl

-- ---- nodes without meaning

-- [f(), <()>]: a constant of its own for unit has no meaning, and is reached after f
unit_as_constant : ran (ExprStmt (array (fn "f" [] ∷ DynamicConstant UnitV ∷ [])) ∷ []) 0 ≡ report (WithStuck WrongKind) [] (asked "f" [] ∷ []) 0
unfolding ran
unit_as_constant = refl

-- `+` of one argument: stuck before it
too_few_operands : ran (ExprStmt (op Plus (fn "f" [] ∷ [])) ∷ []) 0 ≡ report (WithStuck WrongKind) [] [] 0
unfolding ran
too_few_operands = refl

condition_no_bool : ran (If (int 5) (stmts (ExprStmt (int 1) ∷ [])) no_stmts ∷ []) 0 ≡ report (WithStuck WrongKind) [] [] 0
unfolding ran
condition_no_bool = refl

host_throws : ran_in (record { engine = nothing_set; host = record { answer = λ past c. AnswersThrow (TextV c.name); module_value = λ x. None; module_of = λ p. None; text = type_name }; functions = [] }) (ExprStmt (op Plus (fn "f" [] ∷ fn "g" [] ∷ [])) ∷ ExprStmt (fn "h" []) ∷ []) 0 ≡ report (WithThrown (TextV (codes "f"))) [] (asked "f" [] ∷ []) 0
unfolding ran
host_throws = refl

array_of_parts : ran (ExprStmt (array (int 1 ∷ fn "g" [] ∷ op Multiply (int 2 ∷ int 3 ∷ []) ∷ [])) ∷ []) 0 ≡ report (gives (ArrayV (values (i 1 ∷ UnitV ∷ i 6 ∷ [])))) [] (asked "g" [] ∷ []) 0
unfolding ran
array_of_parts = refl
