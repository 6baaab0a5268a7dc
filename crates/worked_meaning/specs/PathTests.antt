-- The paths to the nodes of a tree, and its weight, row by row.
use Rattle.std.specs.Prelude.{◌≡◌, ℕ, true, false, List, [], ◌∷◌, length, Some, None, pos, codes, refl, nat_lt, if◌then◌else◌}
use Rattle.rhai_base.specs.Value.{IntV}
use Rattle.rhai_base.specs.Operators.{Plus, Multiply}
use Rattle.theory_meaning.specs.Paths.{Path, script_paths, stmts_paths, stmt_paths}
use Rattle.theory_meaning.specs.Tree.{Expr, BoolConstant, DynamicConstant, UnitConstant, ThisPtr, InterpolatedString, BlockExpr, And, Coalesce, ExclusiveInt, Stmt, Noop, If, Switch, While, Do, For, Block, TryCatch, ExprStmt, FnCallStmt, Assignment, BreakLoop, Return, Import, Export, Share, an_expr, no_expr, arms, no_stmts, exprs, stmts}
use Rattle.theory_meaning.specs.Walk.{OfExpr, OfStmt}
use Rattle.theory_meaning.specs.Weight.{expr_weight, stmt_weight, weight}
use Rattle.worked_meaning.specs.Terms.{int, var, op, callee, fn, let', const', array, at, dot, prop, meth, map_one}
use Rattle.worked_meaning.specs.MoreRuns.{first}

-- ---- paths

abbrev longest : List Path → ℕ
longest [] = 0
longest (p ∷ ps) = if nat_lt (longest ps) (length p) then length p else longest ps

-- let x = 1 + 2
sum_paths : stmt_paths (let' "x" (op Plus (int 1 ∷ int 2 ∷ [])))
    ≡ (OfStmt (let' "x" (op Plus (int 1 ∷ int 2 ∷ []))) ∷ [])
    ∷ (OfStmt (let' "x" (op Plus (int 1 ∷ int 2 ∷ []))) ∷ OfExpr (op Plus (int 1 ∷ int 2 ∷ [])) ∷ [])
    ∷ (OfStmt (let' "x" (op Plus (int 1 ∷ int 2 ∷ []))) ∷ OfExpr (op Plus (int 1 ∷ int 2 ∷ [])) ∷ OfExpr (int 1) ∷ [])
    ∷ (OfStmt (let' "x" (op Plus (int 1 ∷ int 2 ∷ []))) ∷ OfExpr (op Plus (int 1 ∷ int 2 ∷ [])) ∷ OfExpr (int 2) ∷ [])
    ∷ []
sum_paths = refl

-- const A = 40 + 2; let b = 123; const B = b * A; const C = 999; b = A + C; { const Z = 0; print(Z); }
abbrev declarations : List Stmt
declarations = const' "A" (op Plus (int 40 ∷ int 2 ∷ [])) ∷ let' "b" (int 123) ∷ const' "B" (op Multiply (var "b" ∷ var "A" ∷ [])) ∷ const' "C" (int 999) ∷ Assignment None (var "b") (op Plus (var "A" ∷ var "C" ∷ [])) ∷ Block (stmts (const' "Z" (int 0) ∷ FnCallStmt (callee "print") (exprs (var "Z" ∷ [])) ∷ [])) ∷ []

many_paths : length (stmts_paths (stmts declarations)) ∷ longest (stmts_paths (stmts declarations)) ∷ [] ≡ 22 ∷ 3 ∷ []
many_paths = refl

-- switch x { 1 => 2, 2 => 2 }, both lists naming one arm, and an arm that none names
abbrev shared_arm : Stmt
shared_arm = Switch (var "x") (arms ((BoolConstant true, int 2) ∷ (BoolConstant true, int 3) ∷ [])) (record { cases = record { value = IntV (pos 1); arms = 0 ∷ [] } ∷ record { value = IntV (pos 2); arms = 0 ∷ [] } ∷ []; ranges = []; default = None })

abbrev under : List Expr → List Path
under [] = []
under (e ∷ es) = (OfStmt shared_arm ∷ OfExpr e ∷ []) ∷ under es

shared_arm_twice : stmt_paths shared_arm ≡ (OfStmt shared_arm ∷ []) ∷ under (var "x" ∷ BoolConstant true ∷ int 2 ∷ BoolConstant true ∷ int 2 ∷ [])
shared_arm_twice = refl

-- loop { break 5 }: the loop, its guard, the `break`, the 5
abbrev left_loop : Stmt
left_loop = While UnitConstant (stmts (BreakLoop true false (an_expr (int 5)) ∷ []))

loop_paths : stmt_paths left_loop ≡ (OfStmt left_loop ∷ []) ∷ (OfStmt left_loop ∷ OfExpr UnitConstant ∷ []) ∷ (OfStmt left_loop ∷ OfStmt (BreakLoop true false (an_expr (int 5))) ∷ []) ∷ (OfStmt left_loop ∷ OfStmt (BreakLoop true false (an_expr (int 5))) ∷ OfExpr (int 5) ∷ []) ∷ []
loop_paths = refl

-- no statements, fn f(x) { x }
body_paths : script_paths (record { statements = no_stmts; functions = record { name = codes "f"; this_type = None; params = codes "x" ∷ []; body = stmts (ExprStmt (var "x") ∷ []) } ∷ [] })
    ≡ (OfStmt (ExprStmt (var "x")) ∷ []) ∷ (OfStmt (ExprStmt (var "x")) ∷ OfExpr (var "x") ∷ []) ∷ []
body_paths = refl

-- ---- weights

-- if 1 + 1 == 2 { 40 + 2 } else { 1 / 0 }, and 42
first_weighs : weight (stmts first) ∷ weight (stmts (ExprStmt (int 42) ∷ [])) ∷ [] ≡ 42 ∷ 3 ∷ []
first_weighs = refl

-- (), 1, a constant of its own, x, this, a property
leaf_weights : expr_weight UnitConstant ∷ expr_weight (int 1) ∷ expr_weight (DynamicConstant (IntV (pos 1))) ∷ expr_weight (var "x") ∷ expr_weight ThisPtr ∷ expr_weight (prop "a") ∷ [] ≡ 1 ∷ 2 ∷ 2 ∷ 8 ∷ 3 ∷ 3 ∷ []
leaf_weights = refl

-- f(), [()], #{a: ()}, `()`, { () }, x.a, x.f(()), x[()], () && (), () ?? ()
node_weights : expr_weight (fn "f" []) ∷ expr_weight (array (UnitConstant ∷ [])) ∷ expr_weight (map_one "a" UnitConstant) ∷ expr_weight (InterpolatedString (exprs (UnitConstant ∷ []))) ∷ expr_weight (BlockExpr (stmts (ExprStmt UnitConstant ∷ []))) ∷ expr_weight (dot (var "x") (prop "a")) ∷ expr_weight (dot (var "x") (meth "f" (UnitConstant ∷ []))) ∷ expr_weight (at (var "x") UnitConstant) ∷ expr_weight (And (exprs (UnitConstant ∷ UnitConstant ∷ []))) ∷ expr_weight (Coalesce (exprs (UnitConstant ∷ UnitConstant ∷ []))) ∷ []
    ≡ 4 ∷ 4 ∷ 4 ∷ 4 ∷ 6 ∷ 15 ∷ 17 ∷ 13 ∷ 5 ∷ 5 ∷ []
node_weights = refl

statement_weights : stmt_weight Noop ∷ stmt_weight (ExprStmt UnitConstant) ∷ stmt_weight (Block (stmts (Noop ∷ []))) ∷ stmt_weight (If UnitConstant (stmts (Noop ∷ [])) (stmts (Noop ∷ []))) ∷ stmt_weight (While UnitConstant (stmts (Noop ∷ []))) ∷ stmt_weight (Do true false UnitConstant (stmts (Noop ∷ []))) ∷ stmt_weight (For (codes "x") (Some (codes "i")) UnitConstant (stmts (Noop ∷ []))) ∷ stmt_weight (let' "x" UnitConstant) ∷ stmt_weight (Assignment (Some Plus) (var "x") UnitConstant) ∷ stmt_weight (FnCallStmt (callee "f") (exprs (UnitConstant ∷ []))) ∷ stmt_weight (TryCatch (var "x") (stmts (Noop ∷ [])) (stmts (Noop ∷ []))) ∷ stmt_weight (BreakLoop true false no_expr) ∷ stmt_weight (Return true false (an_expr UnitConstant)) ∷ stmt_weight (Import UnitConstant []) ∷ stmt_weight (Export (codes "x") []) ∷ stmt_weight (Share (codes "x" ∷ codes "y" ∷ [])) ∷ []
    ≡ 1 ∷ 2 ∷ 4 ∷ 13 ∷ 5 ∷ 5 ∷ 5 ∷ 4 ∷ 12 ∷ 4 ∷ 5 ∷ 3 ∷ 4 ∷ 4 ∷ 3 ∷ 5 ∷ []
statement_weights = refl

-- a `switch`: every arm counts once, a case list and each index in it, a range, a default
switch_weights : stmt_weight shared_arm ∷ stmt_weight (Switch UnitConstant (arms ((UnitConstant, UnitConstant) ∷ [])) (record { cases = []; ranges = record { range = ExclusiveInt (pos 0) (pos 1); arm = 0 } ∷ []; default = Some 0 })) ∷ [] ≡ 40 ∷ 25 ∷ []
switch_weights = refl
