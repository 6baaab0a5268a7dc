-- Worked answers on single trees: what each node weighs, what folds, and what is left to reduce.
use Rattle.std.specs.Prelude.{◌≡◌, true, false, [], ◌∷◌, Some, None, codes, refl}
use Rattle.rhai_base.specs.Value.{BoolV, ArrayV, values}
use Rattle.rhai_base.specs.Operators.{Plus, Divide, EqualTo, NotEqualTo, computed}
use Rattle.theory_meaning.specs.Tree.{Callee, NoToken, OfOperator, OfOther, DynamicConstant, BoolConstant, CharConstant, StringConstant, UnitConstant, ArrayOf, BlockExpr, Noop, If, Block, ExprStmt, FnCallStmt, exprs, stmts}
use Rattle.theory_meaning.specs.Walk.{Node, OfExpr, OfStmt}
use Rattle.theory_meaning.specs.WorkedForms.{int, op, call, nothing_set, overriding, i}
use Rattle.theory_rewriting.specs.Folding.{folded}
use Rattle.theory_rewriting.specs.Residue.{holds_constant, IsReducedNode}
use Rattle.theory_meaning.specs.Weight.{expr_weight, stmt_weight, weight}

-- ---- weights

unit_weighs : expr_weight UnitConstant ≡ 1
unit_weighs = refl

bool_weighs : expr_weight (BoolConstant true) ≡ 2
bool_weighs = refl

integer_weighs : expr_weight (int 100) ≡ 2
integer_weighs = refl

char_weighs : expr_weight (CharConstant 97) ≡ 2
char_weighs = refl

text_weighs : expr_weight (StringConstant (codes "a long text")) ≡ 2
text_weighs = refl

value_weighs : expr_weight (DynamicConstant (ArrayV (values (i 1 ∷ i 2 ∷ i 3 ∷ [])))) ≡ 2
value_weighs = refl

-- [], [1, ()]
array_weighs : expr_weight (ArrayOf (exprs [])) ≡ 3
array_weighs = refl

parts_weigh : expr_weight (ArrayOf (exprs (int 1 ∷ UnitConstant ∷ []))) ≡ 6
parts_weigh = refl

-- {}, { 1 }
braces_weigh : expr_weight (BlockExpr (stmts [])) ≡ 4
braces_weigh = refl

braced_weighs : expr_weight (BlockExpr (stmts (ExprStmt (int 1) ∷ []))) ≡ 7
braced_weighs = refl

-- f(), 1 + 2
call_weighs : expr_weight (call "f" []) ≡ 4
call_weighs = refl

operator_weighs : expr_weight (op Plus (int 1 ∷ int 2 ∷ [])) ≡ 8
operator_weighs = refl

noop_weighs : stmt_weight Noop ≡ 1
noop_weighs = refl

expression_weighs : stmt_weight (ExprStmt UnitConstant) ≡ 2
expression_weighs = refl

-- {}, { ; ; }
block_weighs : stmt_weight (Block (stmts [])) ≡ 3
block_weighs = refl

two_in_a_block_weigh : stmt_weight (Block (stmts (Noop ∷ Noop ∷ []))) ≡ 5
two_in_a_block_weigh = refl

-- if () {} else {}, if () { ; } else { ; ; }
if_weighs : stmt_weight (If UnitConstant (stmts []) (stmts [])) ≡ 11
if_weighs = refl

blocks_of_an_if_weigh : stmt_weight (If UnitConstant (stmts (Noop ∷ [])) (stmts (Noop ∷ Noop ∷ []))) ≡ 14
blocks_of_an_if_weigh = refl

-- 1 + 2 as a call statement
call_statement_weighs : stmt_weight (FnCallStmt (record { namespace = []; name = codes "+"; captures = false; token = OfOperator Plus }) (exprs (int 1 ∷ int 2 ∷ []))) ≡ 7
call_statement_weighs = refl

nothing_weighs : weight (stmts []) ≡ 0
nothing_weighs = refl

-- if 1 + 1 == 2 { 40 + 2 } else { 1 / 0 }, and 42
first_weighs : weight (stmts (If (op EqualTo (op Plus (int 1 ∷ int 1 ∷ []) ∷ int 2 ∷ [])) (stmts (ExprStmt (op Plus (int 40 ∷ int 2 ∷ [])) ∷ [])) (stmts (ExprStmt (op Divide (int 1 ∷ int 0 ∷ [])) ∷ [])) ∷ [])) ≡ 42
first_weighs = refl

optimised_weighs : weight (stmts (ExprStmt (int 42) ∷ [])) ≡ 3
optimised_weighs = refl

-- ---- folding

abbrev plus : Callee
plus = record { namespace = []; name = codes "+"; captures = false; token = OfOperator Plus }

sum_folds : folded nothing_set plus (exprs (int 40 ∷ int 2 ∷ [])) ≡ Some (i 42)
unfolding computed
sum_folds = refl

-- [1] != 2: an array of constants is a constant
array_folds : folded nothing_set (record { namespace = []; name = codes "!="; captures = false; token = OfOperator NotEqualTo }) (exprs (ArrayOf (exprs (int 1 ∷ [])) ∷ int 2 ∷ [])) ≡ Some (BoolV true)
unfolding computed
array_folds = refl

-- 1 / 0 and 9223372036854775807 + 1 are left to the run
division_by_zero_stays : folded nothing_set (record { namespace = []; name = codes "/"; captures = false; token = OfOperator Divide }) (exprs (int 1 ∷ int 0 ∷ [])) ≡ None
unfolding computed
division_by_zero_stays = refl

overflow_stays : folded nothing_set plus (exprs (int 9223372036854775807 ∷ int 1 ∷ [])) ≡ None
unfolding computed
overflow_stays = refl

-- so are what the table has no entry for, what is overridden unless operators are fast, and calls by a name
no_entry_stays : folded nothing_set plus (exprs (int 1 ∷ BoolConstant true ∷ [])) ≡ None
unfolding computed
no_entry_stays = refl

overridden_stays : folded (overriding (codes "+") (codes "i64" ∷ codes "i64" ∷ []) false) plus (exprs (int 1 ∷ int 2 ∷ [])) ≡ None
unfolding computed
overridden_stays = refl

fast_folds : folded (overriding (codes "+") (codes "i64" ∷ codes "i64" ∷ []) true) plus (exprs (int 1 ∷ int 2 ∷ [])) ≡ Some (i 3)
unfolding computed
fast_folds = refl

name_stays : folded nothing_set (record plus { token = NoToken }) (exprs (int 1 ∷ int 2 ∷ [])) ≡ None
name_stays = refl

other_token_stays : folded nothing_set (record plus { token = OfOther }) (exprs (int 1 ∷ int 2 ∷ [])) ≡ None
other_token_stays = refl

part_stays : folded nothing_set plus (exprs (int 1 ∷ call "f" [] ∷ [])) ≡ None
part_stays = refl

-- ---- what is left to reduce

abbrev left : Node → Type 0
left n = IsReducedNode nothing_set n → ⊥

-- [1]
array_of_constants_left : left (OfExpr (ArrayOf (exprs (int 1 ∷ []))))
array_of_constants_left h = absurd cc

-- { 1 }
braces_left : left (OfExpr (BlockExpr (stmts (ExprStmt (int 1) ∷ []))))
braces_left h = absurd cc

-- 1 + 2, in an expression and as a statement
operator_left : left (OfExpr (op Plus (int 1 ∷ int 2 ∷ [])))
unfolding computed
operator_left h = absurd cc

call_statement_left : left (OfStmt (FnCallStmt plus (exprs (int 1 ∷ int 2 ∷ []))))
unfolding computed
call_statement_left h = absurd cc

-- if true {} else {}
decided_left : left (OfStmt (If (BoolConstant true) (stmts []) (stmts [])))
decided_left h = absurd cc

-- [f()], { () }, { f() }, { 1; 2 }, 1 / 0, if f() {} else {}
array_reduced : IsReducedNode nothing_set (OfExpr (ArrayOf (exprs (call "f" [] ∷ []))))
array_reduced = refl

unit_in_braces : holds_constant (stmts (ExprStmt UnitConstant ∷ [])) ≡ false
unit_in_braces = refl

call_in_braces : holds_constant (stmts (ExprStmt (call "f" []) ∷ [])) ≡ false
call_in_braces = refl

two_in_braces : holds_constant (stmts (ExprStmt (int 1) ∷ ExprStmt (int 2) ∷ [])) ≡ false
two_in_braces = refl

division_reduced : IsReducedNode nothing_set (OfExpr (op Divide (int 1 ∷ int 0 ∷ [])))
unfolding computed
division_reduced = refl

if_reduced : IsReducedNode nothing_set (OfStmt (If (call "f" []) (stmts []) (stmts [])))
if_reduced = refl
