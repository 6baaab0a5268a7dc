-- The weight of a tree, which each rewrite lowers.
use Rattle.std.specs.Prelude.{ℕ, ◌+◌, List, [], ◌∷◌, length, Option, Some, None}
use Rattle.theory_meaning.specs.Tree.{SwitchCase, SwitchTable, Expr, DynamicConstant, BoolConstant, IntegerConstant, FloatConstant, CharConstant, StringConstant, UnitConstant, Variable, MethodCall, BlockExpr, FnCall, Dot, Index, Exprs, Stmt, Noop, If, Switch, ExprStmt, Share, Stmts}
use Rattle.theory_meaning.specs.Walk.{Node, OfExpr, OfStmt, total, over_expr, over_exprs, over_stmt, over_stmts}

abbrev pub expr_own_weight : Expr → ℕ
expr_own_weight UnitConstant = 1
expr_own_weight (DynamicConstant v) = 2
expr_own_weight (BoolConstant b) = 2
expr_own_weight (IntegerConstant n) = 2
expr_own_weight (FloatConstant x) = 2
expr_own_weight (CharConstant c) = 2
expr_own_weight (StringConstant t) = 2
expr_own_weight (Variable ns x) = 8
expr_own_weight (MethodCall c es) = 4
expr_own_weight (BlockExpr ss) = 4
expr_own_weight (FnCall c es) = 4
expr_own_weight (Dot k l r) = 4
expr_own_weight (Index k l r) = 4
expr_own_weight _ = 3

-- one for each case list and each index in it
abbrev pub cases_weight : List SwitchCase → ℕ
cases_weight [] = 0
cases_weight (c ∷ cs) = 1 + length c.arms + cases_weight cs

abbrev pub default_weight : Option ℕ → ℕ
default_weight None = 0
default_weight (Some i) = 1

abbrev pub table_weight : SwitchTable → ℕ
table_weight t = cases_weight t.cases + length t.ranges + default_weight t.default

abbrev pub stmt_own_weight : Stmt → ℕ
stmt_own_weight Noop = 1
stmt_own_weight (ExprStmt e) = 1
stmt_own_weight (If c a b) = 10
stmt_own_weight (Switch e as' t) = 20 + table_weight t
stmt_own_weight (Share xs) = 3 + length xs
stmt_own_weight _ = 3

abbrev pub own_weight : Node → ℕ
own_weight (OfExpr e) = expr_own_weight e
own_weight (OfStmt s) = stmt_own_weight s

-- a node's own weight and that of its parts, also of arms that no table lists
abbrev pub expr_weight : Expr → ℕ
expr_weight e = over_expr (total own_weight) e

abbrev pub exprs_weight : Exprs → ℕ
exprs_weight es = over_exprs (total own_weight) es

abbrev pub stmt_weight : Stmt → ℕ
stmt_weight s = over_stmt (total own_weight) s

abbrev pub weight : Stmts → ℕ
weight ss = over_stmts (total own_weight) ss
