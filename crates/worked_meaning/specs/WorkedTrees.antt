-- Worked answers on trees: the walk, faults, constants and what belongs to its block.
use Rattle.std.specs.Prelude.{◌≡◌, ℕ, true, false, List, [], ◌∷◌, ◌++◌, Some, None, codes, refl}
use Rattle.rhai_base.specs.Value.{UnitV, BoolV, CharV, TextV, ArrayV, PointerV, values}
use Rattle.rhai_base.specs.Operators.{Plus, Not}
use Rattle.theory_meaning.specs.Constants.{constant_value, constant_bool, constant_for}
use Rattle.theory_meaning.specs.Faults.{IsFaultless}
use Rattle.theory_meaning.specs.Shape.{is_callable}
use Rattle.theory_meaning.specs.Queries.{is_block_dependent, is_any_dependent}
use Rattle.theory_meaning.specs.Tree.{CallToken, NoToken, OfOperator, OfOther, Callee, Expr, DynamicConstant, BoolConstant, IntegerConstant, CharConstant, StringConstant, UnitConstant, ArrayOf, BlockExpr, Noop, If, Block, ExprStmt, FnCallStmt, Script, exprs, stmts}
use Rattle.theory_meaning.specs.Walk.{OfStmt, outermost, Node, OfExpr, over_script, total}
use Rattle.theory_meaning.specs.WorkedForms.{op, int, call, i}

abbrev callee : List ℕ → CallToken → Callee
callee f t = record { namespace = []; name = f; captures = false; token = t }

-- ---- the walk

-- a part of each kind: [1, { 2 }, f(3)]; if 4 { 5 } else { 6 } { 7 } g(8); fn h() { 9 }
abbrev parts : Script
parts = record {
  statements = stmts (ExprStmt (ArrayOf (exprs (int 1 ∷ BlockExpr (stmts (ExprStmt (int 2) ∷ [])) ∷ call "f" (int 3 ∷ []) ∷ []))) ∷ If (int 4) (stmts (ExprStmt (int 5) ∷ [])) (stmts (ExprStmt (int 6) ∷ Noop ∷ [])) ∷ Block (stmts (ExprStmt (int 7) ∷ [])) ∷ FnCallStmt (callee (codes "g") NoToken) (exprs (int 8 ∷ [])) ∷ []);
  functions = record { name = codes "h"; this_type = None; params = []; body = stmts (ExprStmt (int 9) ∷ []) } ∷ [];
}

abbrev own_integer : Node → List Expr → List Expr
own_integer (OfExpr (IntegerConstant n)) es = IntegerConstant n ∷ es
own_integer _ es = es

-- its integers, in the order in which they stand
in_order : over_script (record { none = []; both = λ a b. a ++ b; node = own_integer; within = λ s a. a; arms = λ t as'. [] }) parts ≡ int 1 ∷ int 2 ∷ int 3 ∷ int 4 ∷ int 5 ∷ int 6 ∷ int 7 ∷ int 8 ∷ int 9 ∷ []
in_order = refl

-- nine integers, three expressions around them, four statements at top, five within them and one of the function
all_nodes : over_script (total (λ n. 1)) parts ≡ 22
all_nodes = refl

-- ---- faults

no_fault : IsFaultless outermost (OfExpr (DynamicConstant (BoolV true)))
no_fault = refl

unit_constant : IsFaultless outermost (OfExpr (DynamicConstant UnitV)) → ⊥
unit_constant h = cc

call_of_one : IsFaultless outermost (OfExpr (op Plus (int 1 ∷ []))) → ⊥
call_of_one h = cc

statement_of_one : IsFaultless outermost (OfStmt (FnCallStmt (callee (codes "+") (OfOperator Plus)) (exprs (int 1 ∷ [])))) → ⊥
statement_of_one h = cc

operator_with_token : is_callable (callee (codes "+") (OfOperator Plus)) 2 ≡ true
operator_with_token = refl

operator_of_one : is_callable (callee (codes "+") (OfOperator Plus)) 1 ≡ false
operator_of_one = refl

negation_of_one : is_callable (callee (codes "!") (OfOperator Not)) 1 ≡ true
negation_of_one = refl

operator_of_another_name : is_callable (callee (codes "-") (OfOperator Plus)) 2 ≡ false
operator_of_another_name = refl

operator_that_captures : is_callable (record (callee (codes "+") (OfOperator Plus)) { captures = true }) 2 ≡ false
operator_that_captures = refl

operator_without_token : is_callable (callee (codes "+") NoToken) 2 ≡ false
operator_without_token = refl

other_token : is_callable (callee (codes "f") OfOther) 2 ≡ false
other_token = refl

by_name : is_callable (callee (codes "f") NoToken) 2 ≡ true
by_name = refl

-- ---- constants

value_of_array : constant_value (ArrayOf (exprs (int 1 ∷ ArrayOf (exprs (UnitConstant ∷ [])) ∷ CharConstant 65 ∷ StringConstant (codes "a") ∷ DynamicConstant (PointerV (codes "f") (values [])) ∷ []))) ≡ Some (ArrayV (values (i 1 ∷ ArrayV (values (UnitV ∷ [])) ∷ CharV 65 ∷ TextV (codes "a") ∷ PointerV (codes "f") (values []) ∷ [])))
value_of_array = refl

array_with_call : constant_value (ArrayOf (exprs (int 1 ∷ call "f" [] ∷ []))) ≡ None
array_with_call = refl

braces_no_constant : constant_value (BlockExpr (stmts (ExprStmt (int 1) ∷ []))) ≡ None
braces_no_constant = refl

condition_true : constant_bool (BoolConstant true) ≡ Some true
condition_true = refl

condition_by_value : constant_bool (DynamicConstant (BoolV false)) ≡ Some false
condition_by_value = refl

condition_no_bool : constant_bool (int 1) ≡ None
condition_no_bool = refl

-- the constant for a value
for_unit : constant_for UnitV ≡ UnitConstant
for_unit = refl

for_array : constant_for (ArrayV (values (i 1 ∷ []))) ≡ DynamicConstant (ArrayV (values (i 1 ∷ [])))
for_array = refl

for_pointer : constant_for (PointerV (codes "f") (values [])) ≡ call "Fn" (StringConstant (codes "f") ∷ [])
for_pointer = refl

for_pointer_with_values : constant_for (PointerV (codes "f") (values (i 1 ∷ []))) ≡ DynamicConstant (PointerV (codes "f") (values (i 1 ∷ [])))
for_pointer_with_values = refl

-- ---- what belongs to its block: a call of `eval`, and braces of such statements alone

eval_dependent : is_block_dependent (FnCallStmt (callee (codes "eval") NoToken) (exprs [])) ≡ true
eval_dependent = refl

eval_dependent_expr : is_block_dependent (ExprStmt (call "eval" [])) ≡ true
eval_dependent_expr = refl

call_independent : is_block_dependent (FnCallStmt (callee (codes "f") NoToken) (exprs [])) ≡ false
call_independent = refl

block_independent : is_block_dependent (Block (stmts (ExprStmt (call "eval" []) ∷ []))) ≡ false
block_independent = refl

braces_dependent : is_block_dependent (ExprStmt (BlockExpr (stmts (ExprStmt (call "eval" []) ∷ [])))) ≡ true
braces_dependent = refl

braces_of_two : is_block_dependent (ExprStmt (BlockExpr (stmts (ExprStmt (call "eval" []) ∷ ExprStmt (int 1) ∷ [])))) ≡ false
braces_of_two = refl

any_dependent : is_any_dependent (stmts (ExprStmt (int 1) ∷ ExprStmt (call "eval" []) ∷ [])) ≡ true
any_dependent = refl

none_dependent : is_any_dependent (stmts (ExprStmt (int 1) ∷ Noop ∷ [])) ≡ false
none_dependent = refl
