-- For conditions of the rules on known names, on lists and blocks, on the bases of chains, on left sides and on assignments: two
-- scripts that the rule without it would take for one, and what each does.
use Rattle.std.specs.Prelude.{◌≡◌, ℕ, true, false, [], ◌∷◌, None, codes, refl, List, Some}
use Rattle.rhai_base.specs.Value.{Text, Value, UnitV, ArrayV, MapV, values, field, no_fields, TextV, PointerV, type_name}
use Rattle.rhai_base.specs.Operators.{Plus, Minus, computed}
use Rattle.theory_rewriting.specs.Parts.{named}
use Rattle.worked_rules.specs.WorkedNodes.{dot, safe, index, property}
use Rattle.theory_meaning.specs.Engine.{Engine}
use Rattle.theory_meaning.specs.Act.{Unbound, WrongKind, WriteToConstant, NoPlace, HostCall, Host, Answers}
use Rattle.theory_meaning.specs.Run.{Report, WithValue, WithStuck, WithThrown}
use Rattle.theory_meaning.specs.Tree.{Expr, BoolConstant, DynamicConstant, BlockExpr, FnCall, no_expr, an_expr, Stmt, Noop, If, While, For, Assignment, Block, ExprStmt, BreakLoop, Return, stmts, ArrayOf, MapOf, pairs, Variable, Dot, Index, MethodCall, exprs, StringConstant, And, Coalesce, UnitConstant, Function}
use Rattle.theory_meaning.specs.WorkedForms.{int, nothing_set, joining, ran, ran_with, ends, i, op, asked, overriding, call}
use Rattle.worked_rules.specs.WorkedConditions.{Differ}
use Rattle.worked_rules.specs.WorkedLists.{var, let', const, variable, constant, ends_with}
use Rattle.worked_rules.specs.WorkedRewrites.{f, asks_f}

abbrev show : Expr → Stmt
show e = ExprStmt e

-- ---- names that are known

-- the latest of a name: const x = 1; let x = 2; x, and 1 at its end
shadowed_name_stays : Differ (const "x" (int 1) ∷ let' "x" (int 2) ∷ show (var "x") ∷ []) (ends_with (WithValue (i 2)) (constant "x" (i 1) ∷ variable "x" (i 2) ∷ []) []) (const "x" (int 1) ∷ let' "x" (int 2) ∷ show (int 1) ∷ []) (ends_with (WithValue (i 1)) (constant "x" (i 1) ∷ variable "x" (i 2) ∷ []) [])
unfolding ran
shadowed_name_stays = (refl, refl)

-- a variable isn't known: let x = 1; x = 2; x, and 1 at its end
variable_stays : Differ (let' "x" (int 1) ∷ Assignment None (var "x") (int 2) ∷ show (var "x") ∷ []) (ends_with (WithValue (i 2)) (variable "x" (i 2) ∷ []) []) (let' "x" (int 1) ∷ Assignment None (var "x") (int 2) ∷ show (int 1) ∷ []) (ends_with (WithValue (i 1)) (variable "x" (i 2) ∷ []) [])
unfolding ran
variable_stays = (refl, refl)

-- a name with a namespace is another one: const x = 1; ns::x, and const x = #{a: 1}; ns::x.a, ns::x["a"], where the host's
-- modules have a value for ns::x
abbrev in_module : Value → Host
in_module v = record { answer = λ past c. Answers UnitV None; module_value = λ y. Some v; module_of = λ p. None; text = type_name }

abbrev of_module : Expr
of_module = Variable (codes "ns" ∷ []) (codes "x")

abbrev one_entry : Expr
one_entry = MapOf (pairs ((codes "a", int 1) ∷ [])) (codes "a" ∷ [])

abbrev entry_is : ℕ → Value
entry_is n = MapV (field (codes "a") (i n) no_fields)

abbrev after_constant : Value → Expr → Expr → Report
unfolding ran
after_constant v c e = ran nothing_set (in_module v) (const "x" c ∷ show e ∷ [])

abbrev map_after : ℕ → Report
map_after n = ends_with (WithValue (i n)) (constant "x" (entry_is 1) ∷ []) []

qualified_name_stays : (after_constant (i 2) (int 1) of_module ≡ ends_with (WithValue (i 2)) (constant "x" (i 1) ∷ []) []) × (after_constant (i 2) (int 1) (int 1) ≡ ends_with (WithValue (i 1)) (constant "x" (i 1) ∷ []) [])
unfolding ran
qualified_name_stays = (refl, refl)

qualified_property_stays : (after_constant (entry_is 2) one_entry (Dot dot of_module (property "a")) ≡ map_after 2) × (after_constant (entry_is 2) one_entry (int 1) ≡ map_after 1)
unfolding ran
qualified_property_stays = (refl, refl)

qualified_entry_stays : (after_constant (entry_is 2) one_entry (Index index of_module (StringConstant (codes "a"))) ≡ map_after 2) × (after_constant (entry_is 2) one_entry (int 1) ≡ map_after 1)
unfolding ran
qualified_entry_stays = (refl, refl)

-- of a variable no part is known: let x = #{a: 1}; x.a = 2; x.a, x["a"], and 1 at its end
abbrev after_write : Expr → List Stmt
after_write e = let' "x" one_entry ∷ Assignment None (Dot dot (var "x") (property "a")) (int 2) ∷ show e ∷ []

abbrev written : ℕ → Report
written n = ends_with (WithValue (i n)) (variable "x" (entry_is 2) ∷ []) []

property_of_variable_stays : Differ (after_write (Dot dot (var "x") (property "a"))) (written 2) (after_write (int 1)) (written 1)
unfolding ran
property_of_variable_stays = (refl, refl)

entry_of_variable_stays : Differ (after_write (Index index (var "x") (StringConstant (codes "a")))) (written 2) (after_write (int 1)) (written 1)
unfolding ran
entry_of_variable_stays = (refl, refl)

-- an index that is no constant is run: const x = #{a: 1}; x[f()], and 1
index_of_known_is_run : Differ (const "x" one_entry ∷ show (Index index (var "x") (call "f" [])) ∷ []) (ends_with (WithValue UnitV) (constant "x" (entry_is 1) ∷ []) (asked "f" [] ∷ record { name = codes "index$get$"; receiver = Some (entry_is 1); arguments = UnitV ∷ [] } ∷ [])) (const "x" one_entry ∷ show (int 1) ∷ []) (map_after 1)
unfolding ran
index_of_known_is_run = (refl, refl)

-- the name of a loop isn't the constant around it: const x = 1; for x in [2] { return x }, and return 1
abbrev for_x : Expr → Stmt
for_x e = For (codes "x") None (DynamicConstant (ArrayV (values (i 2 ∷ [])))) (stmts (Return false false (an_expr e) ∷ []))

loop_name_stays : (ran_with nothing_set joining [] 1 (const "x" (int 1) ∷ for_x (var "x") ∷ []) ≡ ends_with (WithValue (i 2)) (constant "x" (i 1) ∷ []) []) × (ran_with nothing_set joining [] 1 (const "x" (int 1) ∷ for_x (int 1) ∷ []) ≡ ends_with (WithValue (i 1)) (constant "x" (i 1) ∷ []) [])
unfolding ran_with
loop_name_stays = (refl, refl)

-- nor is its counter's: const x = 1; for y, x in [2] { return x }, and return 1
abbrev counted_by_x : Expr → Stmt
counted_by_x e = For (codes "y") (Some (codes "x")) (DynamicConstant (ArrayV (values (i 2 ∷ [])))) (stmts (Return false false (an_expr e) ∷ []))

counter_name_stays : (ran_with nothing_set joining [] 1 (const "x" (int 1) ∷ counted_by_x (var "x") ∷ []) ≡ ends_with (WithValue (i 0)) (constant "x" (i 1) ∷ []) []) × (ran_with nothing_set joining [] 1 (const "x" (int 1) ∷ counted_by_x (int 1) ∷ []) ≡ ends_with (WithValue (i 1)) (constant "x" (i 1) ∷ []) [])
unfolding ran_with
counter_name_stays = (refl, refl)

-- a block's constant is not known behind it: { const x = 1; } x, and 1
block_forgets : Differ (Block (stmts (const "x" (int 1) ∷ [])) ∷ show (var "x") ∷ []) (ends (WithStuck Unbound) []) (Block (stmts (const "x" (int 1) ∷ [])) ∷ show (int 1) ∷ []) (ends (WithValue (i 1)) [])
unfolding ran
block_forgets = (refl, refl)

-- in a body the record's constant goes first: under a record's constant x = 2, const x = 1; g(), where fn g() { x } and fn g() { 1 }
abbrev knowing : Engine
knowing = record nothing_set { constants = record { name = codes "x"; value = i 2 } ∷ [] }

abbrev answers : Expr → Function
answers e = record { name = codes "g"; this_type = None; params = []; body = stmts (show e ∷ []) }

abbrev calls_g : List Stmt
calls_g = const "x" (int 1) ∷ show (call "g" []) ∷ []

record_before_scope : (ran_with knowing joining (answers (var "x") ∷ []) 1 calls_g ≡ ends_with (WithValue (i 2)) (constant "x" (i 1) ∷ []) []) × (ran_with knowing joining (answers (int 1) ∷ []) 1 calls_g ≡ ends_with (WithValue (i 1)) (constant "x" (i 1) ∷ []) [])
unfolding ran_with
record_before_scope = (refl, refl)

-- a pointer's name is valid: the call throws where the constant is a value
pointer_name : Differ (show (DynamicConstant (PointerV (codes "1") (values []))) ∷ []) (ends (WithValue (PointerV (codes "1") (values []))) []) (show (call "Fn" (StringConstant (codes "1") ∷ [])) ∷ []) (ends (WithThrown (TextV (codes "function name"))) [])
unfolding ran
pointer_name = (refl, refl)

-- ---- lists

-- a statement that may not leave keeps what follows: if false { return 1; } 2
may_go_on : Differ (If (BoolConstant false) (stmts (Return false false (an_expr (int 1)) ∷ [])) (stmts []) ∷ show (int 2) ∷ []) (ends (WithValue (i 2)) []) (If (BoolConstant false) (stmts (Return false false (an_expr (int 1)) ∷ [])) (stmts []) ∷ []) (ends (WithValue UnitV) [])
unfolding ran
may_go_on = (refl, refl)

-- a pure statement whose value is wanted stays: f(); 42
wanted_value_stays : Differ (f ∷ show (int 42) ∷ []) (ends (WithValue (i 42)) asks_f) (f ∷ []) (ends (WithValue UnitV) asks_f)
unfolding ran
wanted_value_stays = (refl, refl)

-- what isn't pure stays: f(); 1
call_stays : Differ (f ∷ show (int 1) ∷ []) (ends (WithValue (i 1)) asks_f) (show (int 1) ∷ []) (ends (WithValue (i 1)) [])
unfolding ran
call_stays = (refl, refl)

-- a script's own declaration is seen from outside: let x = 1; 2
declaration_stays : Differ (let' "x" (int 1) ∷ show (int 2) ∷ []) (ends_with (WithValue (i 2)) (variable "x" (i 1) ∷ []) []) (show (int 2) ∷ []) (ends (WithValue (i 2)) [])
unfolding ran
declaration_stays = (refl, refl)

-- inside it goes only where all that follows is pure: { let x = 1; x }
read_inside : Differ (Block (stmts (let' "x" (int 1) ∷ show (var "x") ∷ [])) ∷ []) (ends (WithValue (i 1)) []) (Block (stmts (show (var "x") ∷ [])) ∷ []) (ends (WithStuck Unbound) [])
unfolding ran
read_inside = (refl, refl)

-- inside a list too what isn't pure inside stays, and so does a last declaration where the value is wanted:
-- { f(); 1 }, and { 1 }; { f(); 1; let y = 2 }, and { f(); 1 }
call_inside_stays : Differ (Block (stmts (f ∷ show (int 1) ∷ [])) ∷ []) (ends (WithValue (i 1)) asks_f) (Block (stmts (show (int 1) ∷ [])) ∷ []) (ends (WithValue (i 1)) [])
unfolding ran
call_inside_stays = (refl, refl)

wanted_declaration_stays : Differ (Block (stmts (f ∷ show (int 1) ∷ let' "y" (int 2) ∷ [])) ∷ []) (ends (WithValue UnitV) asks_f) (Block (stmts (f ∷ show (int 1) ∷ [])) ∷ []) (ends (WithValue (i 1)) asks_f)
unfolding ran
wanted_declaration_stays = (refl, refl)

-- a `return` inside leaves more than its block: { return 1; } 2
return_inside : Differ (Block (stmts (Return false false (an_expr (int 1)) ∷ [])) ∷ show (int 2) ∷ []) (ends (WithValue (i 1)) []) (Block (stmts (show (int 1) ∷ [])) ∷ show (int 2) ∷ []) (ends (WithValue (i 2)) [])
unfolding ran
return_inside = (refl, refl)

-- a last `return;` goes only behind unit: 1; return;
return_behind_value : Differ (show (int 1) ∷ Return false false no_expr ∷ []) (ends (WithValue UnitV) []) (show (int 1) ∷ []) (ends (WithValue (i 1)) [])
unfolding ran
return_behind_value = (refl, refl)

-- and so does what gives unit: a loop that a `break` leaves with a value is not surely unit. for x in [2] { break 5 } noop
abbrev broken : Stmt
broken = For (codes "x") None (DynamicConstant (ArrayV (values (i 2 ∷ [])))) (stmts (BreakLoop true false (an_expr (int 5)) ∷ []))

unit_behind_value : (ran_with nothing_set joining [] 1 (broken ∷ Noop ∷ []) ≡ ends (WithValue UnitV) []) × (ran_with nothing_set joining [] 1 (broken ∷ []) ≡ ends (WithValue (i 5)) [])
unfolding ran_with
unit_behind_value = (refl, refl)

-- nor is it one itself: what follows it must not go as if it were. A `break` in a guard belongs to the loop around:
-- for x in [2] { while { break 5 } {} } is 5
guard_breaks_out : ran_with nothing_set joining [] 1 (For (codes "x") None (DynamicConstant (ArrayV (values (i 2 ∷ [])))) (stmts (While (BlockExpr (stmts (BreakLoop true false (an_expr (int 5)) ∷ []))) (stmts []) ∷ [])) ∷ []) ≡ ends (WithValue (i 5)) []
unfolding ran_with
guard_breaks_out = refl

-- a last statement that gives another value stays: 1; 2
last_value_stays : Differ (show (int 1) ∷ show (int 2) ∷ []) (ends (WithValue (i 2)) []) (show (int 1) ∷ Noop ∷ []) (ends (WithValue UnitV) [])
unfolding ran
last_value_stays = (refl, refl)

-- and one that is surely unit but writes: let x = 1; x = 2
last_write_stays : Differ (let' "x" (int 1) ∷ Assignment None (var "x") (int 2) ∷ []) (ends_with (WithValue UnitV) (variable "x" (i 2) ∷ []) []) (let' "x" (int 1) ∷ []) (ends_with (WithValue UnitV) (variable "x" (i 1) ∷ []) [])
unfolding ran
last_write_stays = (refl, refl)

-- and a script's own declaration, which is pure inside alone: let x = 1, and nothing
last_declaration_stays : Differ (let' "x" (int 1) ∷ []) (ends_with (WithValue UnitV) (variable "x" (i 1) ∷ []) []) [] (ends (WithValue UnitV) [])
unfolding ran
last_declaration_stays = (refl, refl)

-- a block keeps what belongs to it, alone and in a list: { let x = 1; }, and let x = 1; { let x = 1; } 2, and let x = 1; 2
block_keeps_its_names : Differ (Block (stmts (let' "x" (int 1) ∷ [])) ∷ []) (ends (WithValue UnitV) []) (let' "x" (int 1) ∷ []) (ends_with (WithValue UnitV) (variable "x" (i 1) ∷ []) [])
unfolding ran
block_keeps_its_names = (refl, refl)

block_in_list_keeps_its_names : Differ (Block (stmts (let' "x" (int 1) ∷ [])) ∷ show (int 2) ∷ []) (ends (WithValue (i 2)) []) (let' "x" (int 1) ∷ show (int 2) ∷ []) (ends_with (WithValue (i 2)) (variable "x" (i 1) ∷ []) [])
unfolding ran
block_in_list_keeps_its_names = (refl, refl)

-- a name alone whose value is wanted stays: let x = 1; x
wanted_name_stays : Differ (let' "x" (int 1) ∷ show (var "x") ∷ []) (ends_with (WithValue (i 1)) (variable "x" (i 1) ∷ []) []) (let' "x" (int 1) ∷ []) (ends_with (WithValue UnitV) (variable "x" (i 1) ∷ []) [])
unfolding ran
wanted_name_stays = (refl, refl)

-- an `if` in an `if` with an `else` is no `&&`: if true { if false { f() } else { 1 } }
abbrev inner : Stmt
inner = If (BoolConstant false) (stmts (f ∷ [])) (stmts (show (int 1) ∷ []))

else_inside : Differ (If (BoolConstant true) (stmts (inner ∷ [])) (stmts []) ∷ []) (ends (WithValue (i 1)) []) (If (BoolConstant false) (stmts (f ∷ [])) (stmts []) ∷ []) (ends (WithValue UnitV) [])
unfolding ran
else_inside = (refl, refl)

-- nor is one with an `else` outside: if false { if true { f() } } else { 1 }
else_outside : Differ (If (BoolConstant false) (stmts (If (BoolConstant true) (stmts (f ∷ [])) (stmts []) ∷ [])) (stmts (show (int 1) ∷ [])) ∷ []) (ends (WithValue (i 1)) []) (If (And (exprs (BoolConstant false ∷ BoolConstant true ∷ []))) (stmts (f ∷ [])) (stmts []) ∷ []) (ends (WithValue UnitV) [])
unfolding ran
else_outside = (refl, refl)

-- ---- bases of chains

abbrev answering : Host
answering = record { answer = λ past c. Answers (i 1) None; module_value = λ y. None; module_of = λ p. None; text = type_name }

-- a base that is no place doesn't become one: let x = 1; (() ?? x).m(), and x.m(), where the method gives its receiver 2
abbrev renewing : Host
renewing = record { answer = λ past c. Answers UnitV (Some (i 2)); module_value = λ y. None; module_of = λ p. None; text = type_name }

abbrev calls_method : Expr → List Stmt
calls_method e = let' "x" (int 1) ∷ show (Dot dot e (MethodCall (named (codes "m") false) (exprs []))) ∷ []

abbrev asks_method : List HostCall
asks_method = record { name = codes "m"; receiver = Some (i 1); arguments = [] } ∷ []

one_operand : (ran nothing_set renewing (calls_method (Coalesce (exprs (UnitConstant ∷ var "x" ∷ [])))) ≡ ends_with (WithValue UnitV) (variable "x" (i 1) ∷ []) asks_method) × (ran nothing_set renewing (calls_method (var "x")) ≡ ends_with (WithValue UnitV) (variable "x" (i 2) ∷ []) asks_method)
unfolding ran
one_operand = (refl, refl)

-- a part of a literal that is a name isn't pure, so it doesn't become the base: let x = 1; [x][0].m()
part_is_no_place : (ran nothing_set renewing (let' "x" (int 1) ∷ show (Index dot (ArrayOf (exprs (var "x" ∷ []))) (Dot dot (int 0) (MethodCall (named (codes "m") false) (exprs [])))) ∷ []) ≡ ends_with (WithValue UnitV) (variable "x" (i 1) ∷ []) asks_method) × (ran nothing_set renewing (calls_method (var "x")) ≡ ends_with (WithValue UnitV) (variable "x" (i 2) ∷ []) asks_method)
unfolding ran
part_is_no_place = (refl, refl)

-- `()?.a` goes only where it is a chain of its own: let x = 1; x[()]?.a, and x[()]
abbrev inside_a_chain : Expr → List Stmt
inside_a_chain e = let' "x" (int 1) ∷ show e ∷ []

abbrev asks_one : Text → List Value → HostCall
asks_one name vs = record { name = name; receiver = Some (i 1); arguments = vs }

unit_inside_a_chain : (ran nothing_set answering (inside_a_chain (Index dot (var "x") (Dot safe UnitConstant (property "a")))) ≡ ends_with (WithValue (i 1)) (variable "x" (i 1) ∷ []) (asks_one (codes "index$get$") (UnitV ∷ []) ∷ asks_one (codes "get") [] ∷ [])) × (ran nothing_set answering (inside_a_chain (Index index (var "x") UnitConstant)) ≡ ends_with (WithValue (i 1)) (variable "x" (i 1) ∷ []) (asks_one (codes "index$get$") (UnitV ∷ []) ∷ []))
unfolding ran
unit_inside_a_chain = (refl, refl)

-- ---- left sides

-- const x = 1; x = f(), and 1 = f(), which loses the call
left_side_stays : Differ (const "x" (int 1) ∷ Assignment None (var "x") (call "f" []) ∷ []) (ends_with (WithStuck WriteToConstant) (constant "x" (i 1) ∷ []) asks_f) (const "x" (int 1) ∷ Assignment None (int 1) (call "f" []) ∷ []) (ends_with (WithStuck WrongKind) (constant "x" (i 1) ∷ []) [])
unfolding ran
left_side_stays = (refl, refl)

-- its base stays that place: const x = #{a: 1}; x[f()] = 2, and #{a: 1}[f()] = 2, which loses it too
abbrev sets_by_call : Expr → List Stmt
sets_by_call e = const "x" one_entry ∷ Assignment None (Index index e (call "f" [])) (int 2) ∷ []

place_stays : Differ (sets_by_call (var "x")) (ends_with (WithValue UnitV) (constant "x" (entry_is 1) ∷ []) (asked "f" [] ∷ record { name = codes "index$set$"; receiver = Some (entry_is 1); arguments = UnitV ∷ i 2 ∷ [] } ∷ [])) (sets_by_call one_entry) (ends_with (WithStuck NoPlace) (constant "x" (entry_is 1) ∷ []) [])
unfolding ran
place_stays = (refl, refl)

-- ---- assignments of an operator over their own name

-- the name is read first: let x = 1; x = x + { x = 5; 1 }; x
abbrev writing : Expr
writing = BlockExpr (stmts (Assignment None (var "x") (int 5) ∷ show (int 1) ∷ []))

assignment_inside : Differ (let' "x" (int 1) ∷ Assignment None (var "x") (op Plus (var "x" ∷ writing ∷ [])) ∷ []) (ends_with (WithValue UnitV) (variable "x" (i 2) ∷ []) []) (let' "x" (int 1) ∷ Assignment (Some Plus) (var "x") writing ∷ []) (ends_with (WithValue UnitV) (variable "x" (i 6) ∷ []) [])
unfolding ran computed
assignment_inside = (refl, refl)

-- a method may give its receiver another value: x = x + x.f() where f makes it 5 and answers 1
abbrev changing : Host
changing = record { answer = λ past c. Answers (i 1) (Some (i 5)); module_value = λ x. None; module_of = λ p. None; text = type_name }

abbrev method : Expr
method = Dot dot (var "x") (MethodCall (named (codes "f") false) (exprs []))

abbrev method_asked : List HostCall
method_asked = record { name = codes "f"; receiver = Some (i 1); arguments = [] } ∷ []

method_inside : (ran nothing_set changing (let' "x" (int 1) ∷ Assignment None (var "x") (op Plus (var "x" ∷ method ∷ [])) ∷ []) ≡ ends_with (WithValue UnitV) (variable "x" (i 2) ∷ []) method_asked) × (ran nothing_set changing (let' "x" (int 1) ∷ Assignment (Some Plus) (var "x") method ∷ []) ≡ ends_with (WithValue UnitV) (variable "x" (i 6) ∷ []) method_asked)
unfolding ran computed
method_inside = (refl, refl)

-- the host answers where `+=` is overridden
abbrev overridden : Engine
overridden = overriding (codes "+=") (codes "i64" ∷ codes "i64" ∷ []) false

overridden_assignment : (ran overridden changing (let' "x" (int 1) ∷ Assignment None (var "x") (op Plus (var "x" ∷ int 2 ∷ [])) ∷ []) ≡ ends_with (WithValue UnitV) (variable "x" (i 3) ∷ []) []) × (ran overridden changing (let' "x" (int 1) ∷ Assignment (Some Plus) (var "x") (int 2) ∷ []) ≡ ends_with (WithValue UnitV) (variable "x" (i 1) ∷ []) (asked "+=" (i 1 ∷ i 2 ∷ []) ∷ []))
unfolding ran computed
overridden_assignment = (refl, refl)

-- another operator is another assignment: x = x + 2, and x -= 2
other_operator : Differ (let' "x" (int 3) ∷ Assignment None (var "x") (op Plus (var "x" ∷ int 2 ∷ [])) ∷ []) (ends_with (WithValue UnitV) (variable "x" (i 5) ∷ []) []) (let' "x" (int 3) ∷ Assignment (Some Minus) (var "x") (int 2) ∷ []) (ends_with (WithValue UnitV) (variable "x" (i 1) ∷ []) [])
unfolding ran computed
other_operator = (refl, refl)

-- a call by name would be harmless, also one that captures, since it writes to a copy of what it sees:
-- let x = 1; x = x + g!(), and x += g!(), where fn g() { x = 5; 1 }
abbrev g : Expr
g = FnCall (named (codes "g") true) (exprs [])

abbrev writes_x : Function
writes_x = record { name = codes "g"; this_type = None; params = []; body = stmts (Assignment None (var "x") (int 5) ∷ show (int 1) ∷ []) }

abbrev two : Report
two = ends_with (WithValue UnitV) (variable "x" (i 2) ∷ []) []

call_inside : (ran_with nothing_set joining (writes_x ∷ []) 1 (let' "x" (int 1) ∷ Assignment None (var "x") (op Plus (var "x" ∷ g ∷ [])) ∷ []) ≡ two) × (ran_with nothing_set joining (writes_x ∷ []) 1 (let' "x" (int 1) ∷ Assignment (Some Plus) (var "x") g ∷ []) ≡ two)
unfolding ran_with computed
call_inside = (refl, refl)
