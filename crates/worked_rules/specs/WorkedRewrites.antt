-- For rules on arrays, braces, operators, `if`, blocks and call statements a small script, what it may be rewritten to, and what
-- both do. The other rules stand in `WorkedNodes` and `WorkedLists`.
use Rattle.std.specs.Prelude.{◌≡◌, true, false, List, [], ◌∷◌, codes, refl}
use Rattle.rhai_base.specs.Value.{UnitV, ArrayV, values}
use Rattle.rhai_base.specs.Operators.{Plus, computed}
use Rattle.theory_meaning.specs.Act.{HostCall}
use Rattle.theory_meaning.specs.Run.{Report, WithValue}
use Rattle.theory_meaning.specs.Tree.{Callee, NoToken, OfOperator, DynamicConstant, BoolConstant, UnitConstant, ArrayOf, BlockExpr, Stmt, Noop, If, Block, ExprStmt, FnCallStmt, exprs, stmts}
use Rattle.theory_meaning.specs.WorkedForms.{int, op, call, nothing_set, joining, ran, ends, asked, i}
use Rattle.theory_rewriting.specs.Context.{Whole, under}
use Rattle.theory_rewriting.specs.Rewriting.{StmtsTo, then_stmts, by_stmt_rule, by_expr_rule, by_list_rule, in_array, in_expression, in_head, in_tail, exprs_none, exprs_more}
use Rattle.theory_rewriting.specs.Rules.{array_of_constants, braces_empty, braces_of_expression, braces_of_call, operator_folds, if_without_blocks, if_decided, block_empty, block_of_statement, statement_of_braces, statement_of_call, call_statement_folds, block_gives_way}

-- the one is rewritten to the other, and this is what each does with the host that joins texts
abbrev pub Row : List Stmt → List Stmt → Report → Type 0
Row before after r = StmtsTo (under nothing_set) Whole false true (stmts before) (stmts after) × (ran nothing_set joining before ≡ r) × (ran nothing_set joining after ≡ r)

abbrev plus : Callee
plus = record { namespace = []; name = codes "+"; captures = false; token = OfOperator Plus }

-- f()
abbrev pub f : Stmt
f = FnCallStmt (record { namespace = []; name = codes "f"; captures = false; token = NoToken }) (exprs [])

abbrev pub asks_f : List HostCall
asks_f = asked "f" [] ∷ []

-- ---- expressions

-- [1, 2]
array_of_constants_row : Row (ExprStmt (ArrayOf (exprs (int 1 ∷ int 2 ∷ []))) ∷ []) (ExprStmt (DynamicConstant (ArrayV (values (i 1 ∷ i 2 ∷ [])))) ∷ []) (ends (WithValue (ArrayV (values (i 1 ∷ i 2 ∷ [])))) [])
unfolding ran
array_of_constants_row = (in_head (in_expression (by_expr_rule (array_of_constants refl))), refl, refl)

-- [{}]
braces_empty_row : Row (ExprStmt (ArrayOf (exprs (BlockExpr (stmts []) ∷ []))) ∷ []) (ExprStmt (ArrayOf (exprs (UnitConstant ∷ []))) ∷ []) (ends (WithValue (ArrayV (values (UnitV ∷ [])))) [])
unfolding ran
braces_empty_row = (in_head (in_expression (in_array (exprs_more (by_expr_rule braces_empty) exprs_none))), refl, refl)

-- [{ f() }]
braces_of_expression_row : Row (ExprStmt (ArrayOf (exprs (BlockExpr (stmts (ExprStmt (call "f" []) ∷ [])) ∷ []))) ∷ []) (ExprStmt (ArrayOf (exprs (call "f" [] ∷ []))) ∷ []) (ends (WithValue (ArrayV (values (UnitV ∷ [])))) asks_f)
unfolding ran
braces_of_expression_row = (in_head (in_expression (in_array (exprs_more (by_expr_rule braces_of_expression) exprs_none))), refl, refl)

-- [{ f() }], the call as a statement
braces_of_call_row : Row (ExprStmt (ArrayOf (exprs (BlockExpr (stmts (f ∷ [])) ∷ []))) ∷ []) (ExprStmt (ArrayOf (exprs (call "f" [] ∷ []))) ∷ []) (ends (WithValue (ArrayV (values (UnitV ∷ [])))) asks_f)
unfolding ran
braces_of_call_row = (in_head (in_expression (in_array (exprs_more (by_expr_rule (braces_of_call refl)) exprs_none))), refl, refl)

-- 40 + 2, and a call after it
operator_folds_row : Row (ExprStmt (op Plus (int 40 ∷ int 2 ∷ [])) ∷ f ∷ []) (ExprStmt (int 42) ∷ f ∷ []) (ends (WithValue UnitV) asks_f)
unfolding ran computed
operator_folds_row = (in_head (in_expression (by_expr_rule (operator_folds refl))), refl, refl)

-- ---- statements

-- f(); if true {} else {}
if_without_blocks_row : Row (f ∷ If (BoolConstant true) (stmts []) (stmts []) ∷ []) (f ∷ Block (stmts (ExprStmt (BoolConstant true) ∷ Noop ∷ [])) ∷ []) (ends (WithValue UnitV) asks_f)
unfolding ran
if_without_blocks_row = (in_tail (in_head (by_stmt_rule if_without_blocks)), refl, refl)

-- if true {} else {}; f()
unwanted_if_row : Row (If (BoolConstant true) (stmts []) (stmts []) ∷ f ∷ []) (ExprStmt (BoolConstant true) ∷ f ∷ []) (ends (WithValue UnitV) asks_f)
unfolding ran
unwanted_if_row = (in_head (by_stmt_rule if_without_blocks), refl, refl)

-- if true { 1 } else { f() }, if false { f() } else { 2 }, if false { f() }
if_true_row : Row (If (BoolConstant true) (stmts (ExprStmt (int 1) ∷ [])) (stmts (f ∷ [])) ∷ []) (Block (stmts (ExprStmt (int 1) ∷ [])) ∷ []) (ends (WithValue (i 1)) [])
unfolding ran
if_true_row = (in_head (by_stmt_rule (if_decided refl)), refl, refl)

if_false_row : Row (If (BoolConstant false) (stmts (f ∷ [])) (stmts (ExprStmt (int 2) ∷ [])) ∷ []) (Block (stmts (ExprStmt (int 2) ∷ [])) ∷ []) (ends (WithValue (i 2)) [])
unfolding ran
if_false_row = (in_head (by_stmt_rule (if_decided refl)), refl, refl)

if_nothing_row : Row (If (BoolConstant false) (stmts (f ∷ [])) (stmts []) ∷ []) (Noop ∷ []) (ends (WithValue UnitV) [])
unfolding ran
if_nothing_row = (in_head (by_stmt_rule (if_decided refl)), refl, refl)

-- {}
block_empty_row : Row (Block (stmts []) ∷ []) (Noop ∷ []) (ends (WithValue UnitV) [])
unfolding ran
block_empty_row = (in_head (by_stmt_rule block_empty), refl, refl)

-- { f() }
block_of_statement_row : Row (Block (stmts (f ∷ [])) ∷ []) (f ∷ []) (ends (WithValue UnitV) asks_f)
unfolding ran
block_of_statement_row = (in_head (by_stmt_rule (block_of_statement refl)), refl, refl)

-- { f(); 3 } as an expression statement
statement_of_braces_row : Row (ExprStmt (BlockExpr (stmts (f ∷ ExprStmt (int 3) ∷ []))) ∷ []) (Block (stmts (f ∷ ExprStmt (int 3) ∷ [])) ∷ []) (ends (WithValue (i 3)) asks_f)
unfolding ran
statement_of_braces_row = (in_head (by_stmt_rule statement_of_braces), refl, refl)

-- f() as an expression statement
statement_of_call_row : Row (ExprStmt (call "f" []) ∷ []) (f ∷ []) (ends (WithValue UnitV) asks_f)
unfolding ran
statement_of_call_row = (in_head (by_stmt_rule statement_of_call), refl, refl)

-- 40 + 2 as a call statement
call_statement_folds_row : Row (FnCallStmt plus (exprs (int 40 ∷ int 2 ∷ [])) ∷ []) (ExprStmt (int 42) ∷ []) (ends (WithValue (i 42)) [])
unfolding ran computed
call_statement_folds_row = (in_head (by_stmt_rule (call_statement_folds (operator_folds refl))), refl, refl)

-- ---- lists

-- 1; { f(); 2 } 3
block_gives_way_row : Row (ExprStmt (int 1) ∷ Block (stmts (f ∷ ExprStmt (int 2) ∷ [])) ∷ ExprStmt (int 3) ∷ []) (ExprStmt (int 1) ∷ f ∷ ExprStmt (int 2) ∷ ExprStmt (int 3) ∷ []) (ends (WithValue (i 3)) asks_f)
unfolding ran
block_gives_way_row = (in_tail (by_list_rule (block_gives_way refl)), refl, refl)

-- 42; {}: the value is unit, so the empty block leaves a `Noop`
empty_block_row : Row (ExprStmt (int 42) ∷ Block (stmts []) ∷ []) (ExprStmt (int 42) ∷ Noop ∷ []) (ends (WithValue UnitV) [])
unfolding ran
empty_block_row = (in_tail (by_list_rule (block_gives_way refl)), refl, refl)

-- {}; 42
empty_block_goes_row : Row (Block (stmts []) ∷ ExprStmt (int 42) ∷ []) (ExprStmt (int 42) ∷ []) (ends (WithValue (i 42)) [])
unfolding ran
empty_block_goes_row = (by_list_rule (block_gives_way refl), refl, refl)

-- one after another: [1 + 2] is [3], and that its value
two_rules_row : Row (ExprStmt (ArrayOf (exprs (op Plus (int 1 ∷ int 2 ∷ []) ∷ []))) ∷ []) (ExprStmt (DynamicConstant (ArrayV (values (i 3 ∷ [])))) ∷ []) (ends (WithValue (ArrayV (values (i 3 ∷ [])))) [])
unfolding ran computed
two_rules_row = (then_stmts (in_head (in_expression (in_array (exprs_more (by_expr_rule (operator_folds refl)) exprs_none)))) (in_head (in_expression (by_expr_rule (array_of_constants refl)))), refl, refl)
