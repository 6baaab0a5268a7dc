-- Tests of trees and queries, row by row.
use Rattle.std.specs.Prelude.{◌≡◌, ℕ, Bool, true, false, List, [], ◌∷◌, Option, Some, None, pos, negsuc, codes, refl, map, option_map}
use Prim.Native.String.{String}
use Rattle.rhai_base.specs.Value.{Value, UnitV, IntV, TextV, ArrayV, MapV, PointerV, RangeV, RangeInclusiveV, no_values, values, field, no_fields}
use Rattle.rhai_base.specs.Operators.{Plus, UpTo, Through, binary}
use Rattle.base_tokens.specs.declared.token.Token.TheVariants as token
use Rattle.theory_meaning.specs.Constants.{is_constant, literal_value, constant_for}
use Rattle.theory_meaning.specs.Control.{texts_joined}
use Rattle.base_tokens.specs.Refusals.{number_of_fault}
use Rattle.theory_meaning.specs.Faults.{script_fault}
use Rattle.theory_meaning.specs.Plain.{is_plain}
use Rattle.theory_meaning.specs.Queries.{is_pure_expr, is_pure, is_internally_pure, is_block_dependent, returns_value, is_self_terminated, is_control_flow_break, is_noop, is_unit, is_valid_postfix}
use Rattle.theory_meaning.specs.Tree.{OfOperator, OfOther, ChainFlags, Expr, DynamicConstant, BoolConstant, IntegerConstant, CharConstant, StringConstant, UnitConstant, InterpolatedString, MapOf, Variable, ThisPtr, MethodCall, BlockExpr, FnCall, Dot, Index, And, Or, Coalesce, Function, Stmt, Noop, If, Switch, While, Do, For, Var, Assignment, FnCallStmt, Block, TryCatch, ExprStmt, BreakLoop, Return, Import, Export, Share, no_expr, arms, pairs, no_stmts, no_exprs, exprs, stmts}
use Rattle.worked_meaning.specs.Terms.{int, var, op, callee, fn, let', const', array, at, dot, prop, meth, map_one}

-- the number of the first fault, zero where there is none
abbrev or_zero : Option ℕ → ℕ
or_zero None = 0
or_zero (Some n) = n

abbrev fault_with : List Function → List Stmt → ℕ
fault_with fs ss = or_zero (option_map number_of_fault (script_fault (record { statements = stmts ss; functions = fs })))

abbrev fault : List Stmt → ℕ
fault ss = fault_with [] ss

abbrev plain : List Stmt → Bool
plain ss = is_plain (record { statements = stmts ss; functions = [] })

abbrev named : String → Function
named f = record { name = codes f; this_type = None; params = []; body = no_stmts }

-- ---- faults

-- #{a: 1, a: 2}, its template with `a` alone
duplicate_key : fault (ExprStmt (MapOf (pairs ((codes "a", int 1) ∷ (codes "a", int 2) ∷ [])) (codes "a" ∷ [])) ∷ []) ≡ 20
duplicate_key = refl

template_without_a_key : fault (ExprStmt (MapOf (pairs ((codes "a", int 1) ∷ [])) []) ∷ []) ≡ 21
template_without_a_key = refl

template_with_another_key : fault (ExprStmt (MapOf (pairs ((codes "a", int 1) ∷ [])) (codes "a" ∷ codes "b" ∷ [])) ∷ []) ≡ 21
template_with_another_key = refl

no_operands : fault (ExprStmt (And no_exprs) ∷ []) ∷ fault (ExprStmt (Or no_exprs) ∷ []) ∷ fault (ExprStmt (Coalesce no_exprs) ∷ []) ∷ [] ≡ 22 ∷ 22 ∷ 22 ∷ []
no_operands = refl

unit_as_constant : fault (ExprStmt (DynamicConstant UnitV) ∷ []) ≡ 23
unit_as_constant = refl

-- while {break; true} {} at top level, and in the body of a loop
abbrev breaking_guard : Stmt
breaking_guard = While (BlockExpr (stmts (BreakLoop true false no_expr ∷ ExprStmt (BoolConstant true) ∷ []))) no_stmts

guard_is_no_body : fault (breaking_guard ∷ []) ≡ 24
guard_is_no_body = refl

guard_in_a_body : fault (While UnitConstant (stmts (breaking_guard ∷ [])) ∷ []) ≡ 0
guard_in_a_body = refl

-- the body of a function is no loop's, wherever it is called
break_in_a_function : fault_with (record (named "f") { body = stmts (BreakLoop false false no_expr ∷ []) } ∷ []) [] ≡ 24
break_in_a_function = refl

reserved_function : fault_with (named "call" ∷ []) [] ∷ fault_with (named "+" ∷ []) [] ∷ fault_with (named "f" ∷ []) [] ∷ [] ≡ 25 ∷ 25 ∷ 0 ∷ []
reserved_function = refl

-- a name before its body
name_before_body : fault_with (record (named "call") { body = stmts (BreakLoop true false no_expr ∷ []) } ∷ []) [] ≡ 25
name_before_body = refl

stray_property : fault (ExprStmt (prop "a") ∷ []) ∷ fault (ExprStmt (meth "f" []) ∷ []) ∷ [] ≡ 26 ∷ 26 ∷ []
stray_property = refl

-- a.b as a `Dot` without BREAK, and as one with it
last_dot : fault (ExprStmt (dot (var "a") (prop "b")) ∷ []) ∷ fault (ExprStmt (Dot (record { negated = false; breaks = true; exported = false }) (var "a") (prop "b")) ∷ []) ∷ [] ≡ 0 ∷ 0 ∷ []
last_dot = refl

-- a.b.c and a.b[0], a.1, a[0] without BREAK, a.b with an index in the place of the property
longer_chain : fault (ExprStmt (dot (var "a") (dot (prop "b") (prop "c"))) ∷ []) ∷ fault (ExprStmt (dot (var "a") (at (prop "b") (int 0))) ∷ []) ∷ [] ≡ 0 ∷ 0 ∷ []
longer_chain = refl

chain_shape : fault (ExprStmt (dot (var "a") (int 1)) ∷ []) ∷ fault (ExprStmt (Index (record { negated = false; breaks = false; exported = false }) (var "a") (int 0)) ∷ []) ∷ fault (ExprStmt (dot (var "a") (at (int 1) (int 0))) ∷ []) ∷ [] ≡ 26 ∷ 26 ∷ 26 ∷ []
chain_shape = refl

-- a method's own fault, inside a well-shaped chain, and a method that captures
fault_of_a_method : fault (ExprStmt (dot (var "a") (meth "+" [])) ∷ []) ∷ fault (ExprStmt (dot (var "a") (MethodCall (record (callee "f") { captures = true }) no_exprs)) ∷ []) ∷ [] ≡ 28 ∷ 26 ∷ []
fault_of_a_method = refl

-- the index of a chain is a whole expression
property_as_index : fault (ExprStmt (at (var "a") (prop "b")) ∷ []) ∷ fault (ExprStmt (at (var "a") (dot (var "b") (prop "c"))) ∷ []) ∷ [] ≡ 26 ∷ 0 ∷ []
property_as_index = refl

left_side : fault (Assignment None (int 1) (int 2) ∷ []) ∷ fault (Assignment None ThisPtr (int 2) ∷ []) ∷ [] ≡ 27 ∷ 0 ∷ []
left_side = refl

-- `+` with its token and one argument, without a token, with another one, under a namespace, capturing
operator_name : fault (ExprStmt (op Plus (int 1 ∷ [])) ∷ []) ∷ fault (ExprStmt (fn "+" (int 1 ∷ int 2 ∷ [])) ∷ []) ∷ fault (ExprStmt (FnCall (record (callee "f") { token = OfOther }) no_exprs) ∷ []) ∷ fault (ExprStmt (FnCall (record (callee "+") { namespace = codes "m" ∷ []; token = OfOperator Plus }) (exprs (int 1 ∷ int 2 ∷ []))) ∷ []) ∷ fault (ExprStmt (FnCall (record (callee "+") { captures = true; token = OfOperator Plus }) (exprs (int 1 ∷ int 2 ∷ []))) ∷ []) ∷ fault (FnCallStmt (record (callee "+") { token = OfOperator Plus }) (exprs (int 1 ∷ int 2 ∷ [])) ∷ []) ∷ []
    ≡ 28 ∷ 28 ∷ 28 ∷ 28 ∷ 28 ∷ 0 ∷ []
operator_name = refl

catch_name : fault (TryCatch (int 1) no_stmts no_stmts ∷ []) ∷ fault (TryCatch (Variable (codes "m" ∷ []) (codes "x")) no_stmts no_stmts ∷ []) ∷ fault (TryCatch (var "x") no_stmts no_stmts ∷ []) ∷ fault (TryCatch UnitConstant no_stmts no_stmts ∷ []) ∷ [] ≡ 29 ∷ 29 ∷ 0 ∷ 0 ∷ []
catch_name = refl

-- a table whose one list names the index 5 of 3 arms; a default that isn't literally true, one that a list names too, a
-- key that holds a pointer
abbrev three : List (Expr × Expr)
three = (BoolConstant true, int 1) ∷ (BoolConstant false, int 2) ∷ (BoolConstant true, int 3) ∷ []

abbrev cases_fault : Value → List ℕ → Option ℕ → ℕ
cases_fault v ns d = fault (Switch (int 1) (arms three) (record { cases = record { value = v; arms = ns } ∷ []; ranges = []; default = d }) ∷ [])

switch_table : cases_fault (IntV (pos 1)) (5 ∷ []) None ∷ cases_fault (IntV (pos 1)) (0 ∷ []) (Some 1) ∷ cases_fault (IntV (pos 1)) (0 ∷ []) (Some 0) ∷ cases_fault (PointerV (codes "f") no_values) (0 ∷ []) None ∷ cases_fault (IntV (pos 1)) (0 ∷ []) (Some 3) ∷ cases_fault (IntV (pos 1)) (0 ∷ 1 ∷ []) (Some 2) ∷ []
    ≡ 31 ∷ 31 ∷ 31 ∷ 31 ∷ 31 ∷ 0 ∷ []
switch_table = refl

-- the first in the walk's order: of the parts of a list, and of a node before its parts; an arm that no list names is no node
first_fault : fault (ExprStmt (array (DynamicConstant UnitV ∷ And no_exprs ∷ [])) ∷ Assignment None (int 1) (int 2) ∷ []) ∷ fault (Assignment None (array (And no_exprs ∷ [])) (int 2) ∷ []) ∷ fault (Switch (int 1) (arms ((BoolConstant true, And no_exprs) ∷ [])) (record { cases = []; ranges = []; default = None }) ∷ []) ∷ [] ≡ 23 ∷ 27 ∷ 0 ∷ []
first_fault = refl

-- ---- plain scripts

-- eval("x"), m::eval("x"), x.eval()
plain_calls : plain (ExprStmt (fn "eval" (StringConstant (codes "x") ∷ [])) ∷ []) ∷ plain (ExprStmt (FnCall (record (callee "eval") { namespace = codes "m" ∷ [] }) (exprs (StringConstant (codes "x") ∷ []))) ∷ []) ∷ plain (ExprStmt (dot (var "x") (meth "eval" [])) ∷ []) ∷ plain (FnCallStmt (callee "is_def_fn") no_exprs ∷ []) ∷ []
    ≡ false ∷ true ∷ false ∷ false ∷ []
plain_calls = refl

plain_statements : plain (Import (StringConstant (codes "m")) (codes "a") ∷ []) ∷ plain (Export (codes "x") [] ∷ []) ∷ plain (Share (codes "x" ∷ []) ∷ []) ∷ plain (Var false true (codes "x") (int 1) ∷ []) ∷ plain (const' "x" (int 1) ∷ []) ∷ []
    ≡ true ∷ true ∷ false ∷ true ∷ true ∷ []
plain_statements = refl

-- do {} while true, break, return, a.b and a[0], without EXPORTED and with it
abbrev chain_flags : (breaks exported : Bool) → ChainFlags
chain_flags b o = record { negated = false; breaks = b; exported = o }

plain_flags : map (λ o. plain (Do false o (BoolConstant true) no_stmts ∷ []) ∷ plain (BreakLoop true o no_expr ∷ []) ∷ plain (Return false o no_expr ∷ []) ∷ plain (ExprStmt (Dot (chain_flags false o) (var "a") (prop "b")) ∷ []) ∷ plain (ExprStmt (Index (chain_flags true o) (var "a") (int 0)) ∷ []) ∷ []) (false ∷ true ∷ [])
    ≡ (true ∷ true ∷ true ∷ true ∷ true ∷ []) ∷ (true ∷ true ∷ true ∷ true ∷ true ∷ []) ∷ []
plain_flags = refl

-- a.b.c and a.b[0], whose second node has it
plain_rest_of_a_chain : plain (ExprStmt (dot (var "a") (Dot (chain_flags false true) (prop "b") (prop "c"))) ∷ []) ∷ plain (ExprStmt (dot (var "a") (Index (chain_flags true true) (prop "b") (int 0))) ∷ []) ∷ [] ≡ true ∷ true ∷ []
plain_rest_of_a_chain = refl

-- it is no fault
exported_is_no_fault : fault (Do false true (BoolConstant true) (stmts (BreakLoop true true no_expr ∷ [])) ∷ Return false true no_expr ∷ ExprStmt (Dot (chain_flags false true) (var "a") (prop "b")) ∷ ExprStmt (Index (chain_flags true true) (var "a") (int 0)) ∷ []) ≡ 0
exported_is_no_fault = refl

-- ---- constants and literals

abbrev literals : List Expr → List (Option Value)
literals [] = []
literals (e ∷ es) = literal_value e ∷ literals es

-- 0.., ..=5, ()..(), Fn("1x"), Fn("print"), Fn("f")
literal_calls : literals (op UpTo (int 0 ∷ UnitConstant ∷ []) ∷ op Through (UnitConstant ∷ int 5 ∷ []) ∷ op UpTo (UnitConstant ∷ UnitConstant ∷ []) ∷ fn "Fn" (StringConstant (codes "1x") ∷ []) ∷ fn "Fn" (StringConstant (codes "print") ∷ []) ∷ fn "Fn" (StringConstant (codes "f") ∷ []) ∷ [])
    ≡ Some (RangeV (pos 0) (pos 9223372036854775807)) ∷ Some (RangeInclusiveV (pos 0) (pos 5)) ∷ None ∷ None ∷ None ∷ Some (PointerV (codes "f") no_values) ∷ []
unfolding binary
literal_calls = refl

-- [1, #{a: 2}], `a1`, [x], 1 + 2
literal_parts : literals (array (int 1 ∷ map_one "a" (int 2) ∷ []) ∷ InterpolatedString (exprs (StringConstant (codes "a") ∷ int 1 ∷ [])) ∷ array (var "x" ∷ []) ∷ op Plus (int 1 ∷ int 2 ∷ []) ∷ [])
    ≡ Some (ArrayV (values (IntV (pos 1) ∷ MapV (field (codes "a") (IntV (pos 2)) no_fields) ∷ []))) ∷ Some (TextV (codes "a1")) ∷ None ∷ None ∷ []
unfolding texts_joined
literal_parts = refl

-- a call that makes a pointer is no constant
constants : is_constant (array (int 1 ∷ UnitConstant ∷ [])) ∷ is_constant (fn "Fn" (StringConstant (codes "f") ∷ [])) ∷ is_constant (map_one "a" (var "x")) ∷ is_constant (InterpolatedString (exprs (int 1 ∷ []))) ∷ is_constant (BlockExpr no_stmts) ∷ [] ≡ true ∷ false ∷ false ∷ true ∷ false ∷ []
constants = refl

constants_for_values : constant_for UnitV ∷ constant_for (IntV (negsuc 0)) ∷ constant_for (PointerV (codes "f") no_values) ∷ constant_for (ArrayV no_values) ∷ [] ≡ UnitConstant ∷ IntegerConstant (negsuc 0) ∷ fn "Fn" (StringConstant (codes "f") ∷ []) ∷ DynamicConstant (ArrayV no_values) ∷ []
constants_for_values = refl

-- ---- purity and dependence

abbrev constant_switch : Option ℕ → Stmt
constant_switch d = Switch (int 1) (arms ((BoolConstant true, int 2) ∷ (BoolConstant true, int 3) ∷ [])) (record { cases = record { value = IntV (pos 1); arms = 0 ∷ [] } ∷ []; ranges = []; default = d })

-- for x in [1] {}, while true {}, while false { f() }, do {} until true, do {} while true, a constant `switch` without a
-- default, and with one
pure_statements : is_pure (For (codes "x") None (array (int 1 ∷ [])) no_stmts) ∷ is_pure (While (BoolConstant true) no_stmts) ∷ is_pure (While (BoolConstant false) (stmts (ExprStmt (fn "f" []) ∷ []))) ∷ is_pure (Do true false (BoolConstant true) no_stmts) ∷ is_pure (Do false false (BoolConstant true) no_stmts) ∷ is_pure (constant_switch None) ∷ is_pure (constant_switch (Some 1)) ∷ []
    ≡ true ∷ false ∷ true ∷ true ∷ false ∷ false ∷ true ∷ []
pure_statements = refl

-- `let x = 1`, try {} catch {}, try {} catch (x) {}, x, this, [x], { 1; [2] }, f()
pure_parts : is_pure (let' "x" (int 1)) ∷ is_pure (TryCatch UnitConstant no_stmts no_stmts) ∷ is_pure (TryCatch (var "x") no_stmts no_stmts) ∷ is_pure_expr (var "x") ∷ is_pure_expr ThisPtr ∷ is_pure_expr (array (var "x" ∷ [])) ∷ is_pure_expr (BlockExpr (stmts (ExprStmt (int 1) ∷ ExprStmt (array (int 2 ∷ [])) ∷ []))) ∷ is_pure_expr (fn "f" []) ∷ is_pure_expr (dot (int 1) (prop "a")) ∷ []
    ≡ false ∷ true ∷ false ∷ false ∷ false ∷ false ∷ true ∷ false ∷ false ∷ []
pure_parts = refl

internally_pure : is_internally_pure (let' "x" (int 1)) ∷ is_internally_pure (let' "x" (var "y")) ∷ is_internally_pure (ExprStmt (BlockExpr (stmts (let' "x" (int 1) ∷ [])))) ∷ is_internally_pure (Block (stmts (let' "x" (int 1) ∷ []))) ∷ is_internally_pure (Export (codes "x") []) ∷ is_internally_pure (Import (StringConstant (codes "m")) []) ∷ is_internally_pure Noop ∷ []
    ≡ true ∷ false ∷ true ∷ false ∷ true ∷ true ∷ true ∷ []
internally_pure = refl

-- an expression statement over an empty block, over one with a declaration and another statement; eval, m::eval
block_dependent : is_block_dependent (ExprStmt (BlockExpr no_stmts)) ∷ is_block_dependent (ExprStmt (BlockExpr (stmts (let' "x" (int 1) ∷ Noop ∷ [])))) ∷ is_block_dependent (let' "x" (int 1)) ∷ is_block_dependent (FnCallStmt (callee "eval") no_exprs) ∷ is_block_dependent (ExprStmt (FnCall (record (callee "eval") { namespace = codes "m" ∷ [] }) no_exprs)) ∷ is_block_dependent (Block no_stmts) ∷ is_block_dependent (Import (int 1) []) ∷ is_block_dependent (Share []) ∷ []
    ≡ true ∷ false ∷ true ∷ true ∷ false ∷ false ∷ true ∷ false ∷ []
block_dependent = refl

-- ---- kinds

-- If, While, Do, ExprStmt, FnCallStmt, Switch, TryCatch, Noop
value_kinds : returns_value (If UnitConstant no_stmts no_stmts) ∷ returns_value (While UnitConstant no_stmts) ∷ returns_value (ExprStmt UnitConstant) ∷ returns_value (FnCallStmt (callee "f") no_exprs) ∷ returns_value (constant_switch None) ∷ returns_value (Block no_stmts) ∷ returns_value (TryCatch UnitConstant no_stmts no_stmts) ∷ returns_value Noop ∷ []
    ≡ true ∷ false ∷ true ∷ true ∷ true ∷ true ∷ false ∷ false ∷ []
value_kinds = refl

ends_itself : is_self_terminated (If UnitConstant no_stmts no_stmts) ∷ is_self_terminated (While UnitConstant no_stmts) ∷ is_self_terminated (Do false false UnitConstant no_stmts) ∷ is_self_terminated (For (codes "x") None UnitConstant no_stmts) ∷ is_self_terminated (TryCatch UnitConstant no_stmts no_stmts) ∷ is_self_terminated (constant_switch None) ∷ is_self_terminated (ExprStmt UnitConstant) ∷ is_self_terminated Noop ∷ []
    ≡ true ∷ true ∷ false ∷ true ∷ true ∷ true ∷ false ∷ false ∷ []
ends_itself = refl

leaves_its_list : is_control_flow_break (Return true false no_expr) ∷ is_control_flow_break (BreakLoop false false no_expr) ∷ is_control_flow_break (Block (stmts (Return true false no_expr ∷ []))) ∷ is_noop Noop ∷ is_noop (Block no_stmts) ∷ is_unit UnitConstant ∷ is_unit (BlockExpr no_stmts) ∷ [] ≡ true ∷ true ∷ false ∷ true ∷ false ∷ true ∷ false ∷ []
leaves_its_list = refl

may_follow : is_valid_postfix token.Period (int 1) ∷ is_valid_postfix token.QuestionBracket (CharConstant 97) ∷ is_valid_postfix token.Bang (var "x") ∷ is_valid_postfix token.LeftParen (var "x") ∷ is_valid_postfix token.Plus (var "x") ∷ is_valid_postfix token.LeftParen (prop "x") ∷ is_valid_postfix token.Bang (prop "x") ∷ is_valid_postfix token.LeftParen (int 1) ∷ []
    ≡ true ∷ true ∷ true ∷ true ∷ false ∷ true ∷ false ∷ false ∷ []
may_follow = refl
