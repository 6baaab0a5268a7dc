-- The arms of a `switch` that are left to be tried, and its default.
use Rattle.std.specs.Prelude.{ℕ, zero, suc, Bool, true, false, List, [], ◌∷◌, Option, Some, None}
use Rattle.theory_meaning.specs.Constants.{constant_bool}
use Rattle.theory_meaning.specs.Tree.{Expr, UnitConstant, Arms, no_arms, arm, Stmt, Block, ExprStmt, Stmts, no_stmts, stmt}

-- its condition and its answer
abbrev pub arm_of : Arms → ℕ → Option (Expr × Expr)
arm_of no_arms i = None
arm_of (arm c a as') zero = Some (c, a)
arm_of (arm c a as') (suc i) = arm_of as' i

-- what a constant condition decides; a missing arm answers nothing
abbrev pub arm_decides : Option (Expr × Expr) → Option Bool
arm_decides None = Some false
arm_decides (Some p) = constant_bool p.0

abbrev pub left_with : Option Bool → ℕ → List ℕ → List ℕ
left_with (Some false) i is = is
left_with (Some true) i is = i ∷ []
left_with None i is = i ∷ is

-- arms in order: false ones go, and those after a true one
abbrev pub left_arms : Arms → List ℕ → List ℕ
left_arms as' [] = []
left_arms as' (i ∷ is) = left_with (arm_decides (arm_of as' i)) i (left_arms as' is)

-- ---- the default

abbrev pub answer_of_arm : Option (Expr × Expr) → Option Expr
answer_of_arm None = None
answer_of_arm (Some p) = Some p.1

abbrev pub default_answer : Arms → Option ℕ → Option Expr
default_answer as' None = None
default_answer as' (Some i) = answer_of_arm (arm_of as' i)

-- as a statement, and as a branch
abbrev pub default_stmt : Option Expr → Stmt
default_stmt None = Block no_stmts
default_stmt (Some e) = ExprStmt e

abbrev pub default_branch : Option Expr → Stmts
default_branch None = no_stmts
default_branch (Some e) = stmt (ExprStmt e) no_stmts

-- ---- an arm that no list names

-- with unit as the answer of the i-th
abbrev pub forgotten : Arms → ℕ → Arms
forgotten no_arms i = no_arms
forgotten (arm c a as') zero = arm c UnitConstant as'
forgotten (arm c a as') (suc i) = arm c a (forgotten as' i)
