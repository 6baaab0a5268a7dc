-- The statements of the built-in scripts, in the order in which the program lists them, and the functions of the one that has any.
use Rattle.std.specs.Prelude.{List, [], ◌∷◌, Some, None, pos, negsuc, false, true, codes}
use Rattle.rhai_base.specs.Value.{IntV, ArrayV, values}
use Rattle.rhai_base.specs.Operators.{Plus, Multiply, Divide, EqualTo}
use Rattle.theory_meaning.specs.Tree.{NoToken, SwitchCase, SwitchTable, Expr, BoolConstant, IntegerConstant, StringConstant, UnitConstant, Variable, InterpolatedString, BlockExpr, FnCall, MethodCall, Dot, Coalesce, no_exprs, expr, exprs, an_expr, Arms, no_arms, arm, Stmt, If, Switch, While, For, Var, Block, ExprStmt, Return, Import, Stmts, no_stmts, stmts, Function}
use Rattle.demo.specs.Trees.{called, int, variable, array, over, going_on, element, alone, evaluates, declares, assigns, calls}

-- 1 + 1 == 2
abbrev pub first_condition : Expr
first_condition = over EqualTo (over Plus (int 1) (int 1)) (int 2)

-- 1 / 0
abbrev pub divide_statements : Stmts
divide_statements = evaluates (over Divide (int 1) (int 0))

-- if 1 + 1 == 2 { 40 + 2 } else { 1 / 0 }
abbrev pub first_statements : Stmts
first_statements = alone (If first_condition (evaluates (over Plus (int 40) (int 2))) divide_statements)

-- [1, 2, 3][-1]
abbrev pub index_statements : Stmts
index_statements = evaluates (element (array (int 1 ∷ int 2 ∷ int 3 ∷ [])) (IntegerConstant (negsuc 0)))

-- 5[0]
abbrev pub bits_statements : Stmts
bits_statements = evaluates (element (int 5) (int 0))

-- () ?? ()
abbrev pub coalesce_statements : Stmts
coalesce_statements = evaluates (Coalesce (exprs (UnitConstant ∷ UnitConstant ∷ [])))

-- x = x + 2
abbrev pub two_added : Stmt
two_added = assigns (codes "x") (over Plus (variable (codes "x")) (int 2))

-- let x = 1; x = x + 2; x
abbrev pub opassign_statements : Stmts
opassign_statements = stmts (declares false (codes "x") (int 1) ∷ two_added ∷ ExprStmt (variable (codes "x")) ∷ [])

-- { x = 5; 1 }
abbrev pub rewriting_block : Stmts
rewriting_block = stmts (assigns (codes "x") (int 5) ∷ ExprStmt (int 1) ∷ [])

-- x = x + { x = 5; 1 }
abbrev pub block_added : Stmt
block_added = assigns (codes "x") (over Plus (variable (codes "x")) (BlockExpr rewriting_block))

-- let x = 1; x = x + { x = 5; 1 }; x
abbrev pub rewrite_statements : Stmts
rewrite_statements = stmts (declares false (codes "x") (int 1) ∷ block_added ∷ ExprStmt (variable (codes "x")) ∷ [])

-- return 42
abbrev pub return_statements : Stmts
return_statements = alone (Return false false (an_expr (int 42)))

-- 42; {}
abbrev pub tail_statements : Stmts
tail_statements = stmts (ExprStmt (int 42) ∷ Block no_stmts ∷ [])

-- for x in [1, 2] { print(x); }
abbrev pub printing_loop : Stmt
printing_loop = For (codes "x") None (array (int 1 ∷ int 2 ∷ [])) (alone (calls (codes "print") (variable (codes "x"))))

-- const x = 42; for x in [1, 2] { print(x); }
abbrev pub shadow_statements : Stmts
shadow_statements = stmts (declares true (codes "x") (int 42) ∷ printing_loop ∷ [])

-- {a}.push(1)
abbrev pub pushing : Expr
pushing = Dot going_on (BlockExpr (evaluates (variable (codes "a")))) (MethodCall (called (codes "push") NoToken) (expr (int 1) no_exprs))

-- let a = []; {a}.push(1); a
abbrev pub base_statements : Stmts
base_statements = stmts (declares false (codes "a") (array []) ∷ ExprStmt pushing ∷ ExprStmt (variable (codes "a")) ∷ [])

-- [1] has the first two arms
abbrev pub switch_cases : List SwitchCase
switch_cases = record { value = ArrayV (values (IntV (pos 1) ∷ [])); arms = 0 ∷ 1 ∷ [] } ∷ []

-- the third arm is the default
abbrev pub switch_table : SwitchTable
switch_table = record { cases = switch_cases; ranges = []; default = Some 2 }

-- f() => 1, true => 2, true => 3
abbrev pub switch_arms : Arms
switch_arms = arm (FnCall (called (codes "f") NoToken) no_exprs) (int 1) (arm (BoolConstant true) (int 2) (arm (BoolConstant true) (int 3) no_arms))

-- switch [1] { [1] if f() => 1, [1] => 2, _ => 3 }
abbrev pub switch_statements : Stmts
switch_statements = alone (Switch (array (int 1 ∷ [])) switch_arms switch_table)

-- loop {} print(1)
abbrev pub endless_statements : Stmts
endless_statements = stmts (While UnitConstant no_stmts ∷ calls (codes "print") (int 1) ∷ [])

-- const A = 40 + 2
abbrev pub declared_sum : Stmt
declared_sum = declares true (codes "A") (over Plus (int 40) (int 2))

-- const B = b * A
abbrev pub declared_product : Stmt
declared_product = declares true (codes "B") (over Multiply (variable (codes "b")) (variable (codes "A")))

-- b = A + C
abbrev pub assigned_sum : Stmt
assigned_sum = assigns (codes "b") (over Plus (variable (codes "A")) (variable (codes "C")))

-- { const Z = 0; print(Z); }
abbrev pub printing_block : Stmt
printing_block = Block (stmts (declares true (codes "Z") (int 0) ∷ calls (codes "print") (variable (codes "Z")) ∷ []))

-- const A = 40 + 2; let b = 123; const B = b * A; const C = 999; b = A + C; { const Z = 0; print(Z); }
abbrev pub constants_statements : Stmts
constants_statements = stmts (
    declared_sum
    ∷ declares false (codes "b") (int 123)
    ∷ declared_product
    ∷ declares true (codes "C") (int 999)
    ∷ assigned_sum
    ∷ printing_block
    ∷ [])

-- foo(1) foo("!")
abbrev pub merge_statements : Stmts
merge_statements = stmts (calls (codes "foo") (int 1) ∷ calls (codes "foo") (StringConstant (codes "!")) ∷ [])

-- `hello${n}`
abbrev pub greeting : Expr
greeting = InterpolatedString (exprs (StringConstant (codes "hello") ∷ variable (codes "n") ∷ []))

-- fn foo(n) { `hello${n}` }
abbrev pub greeting_function : Function
greeting_function = record { name = codes "foo"; this_type = None; params = codes "n" ∷ []; body = evaluates greeting }

-- of foo(x) and foo(n) the later one alone
abbrev pub merge_functions : List Function
merge_functions = greeting_function ∷ []

-- import "m" as a
abbrev pub imported : Stmt
imported = Import (StringConstant (codes "m")) (codes "a")

-- export let x = a::v
abbrev pub exported : Stmt
exported = Var false true (codes "x") (Variable (codes "a" ∷ []) (codes "v"))

-- x + 1
abbrev pub one_added : Expr
one_added = over Plus (variable (codes "x")) (int 1)

-- import "m" as a; export let x = a::v; x + 1
abbrev pub import_statements : Stmts
import_statements = stmts (imported ∷ exported ∷ ExprStmt one_added ∷ [])
