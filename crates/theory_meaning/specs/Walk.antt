-- One walk over the parts of a tree, the only recursion that lists them: what is made of a node, and of its parts.
use Rattle.std.specs.Prelude.{ℕ, zero, suc, ◌+◌, Bool, true, false, List, [], ◌∷◌, ◌++◌, Option, Some, None, if◌then◌else◌}
use Rattle.theory_meaning.specs.Tree.{ChainFlags, SwitchCase, SwitchRange, SwitchTable, Expr, InterpolatedString, ArrayOf, MapOf, MethodCall, BlockExpr, FnCall, Dot, Index, And, Or, Coalesce, Exprs, no_exprs, expr, Pairs, no_pairs, pair, MaybeExpr, no_expr, an_expr, Arms, no_arms, arm, Stmt, If, Switch, While, Do, For, Var, Assignment, FnCallStmt, Block, TryCatch, ExprStmt, BreakLoop, Return, Import, Stmts, no_stmts, stmt, Function, Script}

pub data Node : Type 0 where
  OfExpr : Expr → Node
  OfStmt : Stmt → Node

-- where a part stands in its node, where that matters: the body of a loop, the left and the right side of a `Dot` (true)
-- or an `Index`
pub data Spot : Type 0 where
  LoopBody : Spot
  LeftSide : Spot
  RightSide : Bool → ChainFlags → Expr → Spot

-- what is made of no part, of parts one after another, of a node with what is made of its parts, of a part that stands
-- somewhere, and of the arms of a `switch`
pub record Walk {ℓ} (A : Type ℓ) : Type ℓ where
  pub none : A
  pub both : A → A → A
  pub node : Node → A → A
  pub within : Spot → A → A
  pub arms : SwitchTable → List A → A

-- the parts alone, and each item of a list
abbrev mutual
  pub parts_of_expr {ℓ} : {A : Type ℓ} → Walk A → Expr → A
  parts_of_expr w (InterpolatedString es) = over_exprs w es
  parts_of_expr w (ArrayOf es) = over_exprs w es
  parts_of_expr w (MapOf ps template) = over_pairs w ps
  parts_of_expr w (MethodCall c es) = over_exprs w es
  parts_of_expr w (BlockExpr ss) = over_stmts w ss
  parts_of_expr w (FnCall c es) = over_exprs w es
  parts_of_expr w (Dot k l r) = w.both (w.within LeftSide (w.node (OfExpr l) (parts_of_expr w l))) (w.within (RightSide true k r) (w.node (OfExpr r) (parts_of_expr w r)))
  parts_of_expr w (Index k l r) = w.both (w.within LeftSide (w.node (OfExpr l) (parts_of_expr w l))) (w.within (RightSide false k r) (w.node (OfExpr r) (parts_of_expr w r)))
  parts_of_expr w (And es) = over_exprs w es
  parts_of_expr w (Or es) = over_exprs w es
  parts_of_expr w (Coalesce es) = over_exprs w es
  parts_of_expr w _ = w.none

  pub parts_of_stmt {ℓ} : {A : Type ℓ} → Walk A → Stmt → A
  parts_of_stmt w (If c a b) = w.both (w.node (OfExpr c) (parts_of_expr w c)) (w.both (over_stmts w a) (over_stmts w b))
  parts_of_stmt w (Switch e as' t) = w.both (w.node (OfExpr e) (parts_of_expr w e)) (w.arms t (over_arms w as'))
  parts_of_stmt w (While e b) = w.both (w.node (OfExpr e) (parts_of_expr w e)) (w.within LoopBody (over_stmts w b))
  parts_of_stmt w (Do negated exported e b) = w.both (w.node (OfExpr e) (parts_of_expr w e)) (w.within LoopBody (over_stmts w b))
  parts_of_stmt w (For x i e b) = w.both (w.node (OfExpr e) (parts_of_expr w e)) (w.within LoopBody (over_stmts w b))
  parts_of_stmt w (Var constant exported x e) = w.node (OfExpr e) (parts_of_expr w e)
  parts_of_stmt w (Assignment op l e) = w.both (w.node (OfExpr l) (parts_of_expr w l)) (w.node (OfExpr e) (parts_of_expr w e))
  parts_of_stmt w (FnCallStmt c es) = over_exprs w es
  parts_of_stmt w (Block ss) = over_stmts w ss
  parts_of_stmt w (TryCatch x a b) = w.both (over_stmts w a) (over_stmts w b)
  parts_of_stmt w (ExprStmt e) = w.node (OfExpr e) (parts_of_expr w e)
  parts_of_stmt w (BreakLoop breaks exported m) = over_maybe w m
  parts_of_stmt w (Return throws exported m) = over_maybe w m
  parts_of_stmt w (Import e x) = w.node (OfExpr e) (parts_of_expr w e)
  parts_of_stmt w _ = w.none

  pub over_exprs {ℓ} : {A : Type ℓ} → Walk A → Exprs → A
  over_exprs w no_exprs = w.none
  over_exprs w (expr e es) = w.both (w.node (OfExpr e) (parts_of_expr w e)) (over_exprs w es)

  pub over_pairs {ℓ} : {A : Type ℓ} → Walk A → Pairs → A
  over_pairs w no_pairs = w.none
  over_pairs w (pair k e ps) = w.both (w.node (OfExpr e) (parts_of_expr w e)) (over_pairs w ps)

  pub over_maybe {ℓ} : {A : Type ℓ} → Walk A → MaybeExpr → A
  over_maybe w no_expr = w.none
  over_maybe w (an_expr e) = w.node (OfExpr e) (parts_of_expr w e)

  -- each arm: its condition, then its answer
  pub over_arms {ℓ} : {A : Type ℓ} → Walk A → Arms → List A
  over_arms w no_arms = []
  over_arms w (arm c a as') = w.both (w.node (OfExpr c) (parts_of_expr w c)) (w.node (OfExpr a) (parts_of_expr w a)) ∷ over_arms w as'

  pub over_stmts {ℓ} : {A : Type ℓ} → Walk A → Stmts → A
  over_stmts w no_stmts = w.none
  over_stmts w (stmt s ss) = w.both (w.node (OfStmt s) (parts_of_stmt w s)) (over_stmts w ss)

-- a node and its parts
abbrev pub over_expr {ℓ} : {A : Type ℓ} → Walk A → Expr → A
over_expr w e = w.node (OfExpr e) (parts_of_expr w e)

abbrev pub over_stmt {ℓ} : {A : Type ℓ} → Walk A → Stmt → A
over_stmt w s = w.node (OfStmt s) (parts_of_stmt w s)

abbrev pub over_functions {ℓ} : {A : Type ℓ} → Walk A → List Function → A
over_functions w [] = w.none
over_functions w (f ∷ fs) = w.both (over_stmts w f.body) (over_functions w fs)

abbrev pub over_script {ℓ} : {A : Type ℓ} → Walk A → Script → A
over_script w p = w.both (over_stmts w p.statements) (over_functions w p.functions)

-- ---- the arms of a `switch`

abbrev pub arms_of_cases : List SwitchCase → List ℕ
arms_of_cases [] = []
arms_of_cases (c ∷ cs) = c.arms ++ arms_of_cases cs

abbrev pub arms_of_ranges : List SwitchRange → List ℕ
arms_of_ranges [] = []
arms_of_ranges (r ∷ rs) = r.arm ∷ arms_of_ranges rs

abbrev pub arm_of_default : Option ℕ → List ℕ
arm_of_default None = []
arm_of_default (Some i) = i ∷ []

-- the arms that a table lists, each time that it does
abbrev pub listed : SwitchTable → List ℕ
listed t = arms_of_cases t.cases ++ arms_of_ranges t.ranges ++ arm_of_default t.default

-- the arm of an index; past the table there is none
abbrev pub arm_at {ℓ} : {A : Type ℓ} → A → List A → ℕ → A
arm_at none [] i = none
arm_at none (a ∷ as') zero = a
arm_at none (a ∷ as') (suc i) = arm_at none as' i

abbrev pub arms_at {ℓ} : {A : Type ℓ} → A → (A → A → A) → List A → List ℕ → A
arms_at none both as' [] = none
arms_at none both as' (i ∷ is) = both (arm_at none as' i) (arms_at none both as' is)

-- ---- walks

-- P holds of every node
abbrev pub every : (Node → Type 0) → Walk (Type 0)
every P = record { none = Unit {0}; both = λ p q. p × q; node = λ n p. P n × p; within = λ s p. p; arms = λ t ps. arms_at (Unit {0}) (λ p q. p × q) ps (listed t) }

abbrev pub sum_of : List ℕ → ℕ
sum_of [] = 0
sum_of (n ∷ ns) = n + sum_of ns

-- the sum over all nodes, also those of arms that no table lists
abbrev pub total : (Node → ℕ) → Walk ℕ
total f = record { none = 0; both = λ a b. a + b; node = λ n a. f n + a; within = λ s a. a; arms = λ t as'. sum_of as' }

-- ---- what stands around a node

-- a whole expression; the property or method of a `Dot`; the rest of a chain, whose left side is a `Dot`'s argument or not
pub data Role : Type 0 where
  Whole : Role
  Member : Role
  Rest : Bool → Role

-- whether a loop's body stands around, in the same function
pub record Around : Type 0 where
  pub in_loop : Bool
  pub role : Role

-- a whole expression or a statement
abbrev pub whole : Bool → Around
whole in_loop = record { in_loop = in_loop; role = Whole }

abbrev pub outermost : Around
outermost = whole false

abbrev pub left_role : Role → Role
left_role (Rest true) = Member
left_role _ = Whole

abbrev pub right_role : (dot breaks : Bool) → Expr → Role
right_role dot true r = if dot then Member else Whole
right_role dot false (Dot k l r) = Rest dot
right_role dot false (Index k l r) = Rest dot
right_role dot false _ = if dot then Member else Whole

abbrev pub around_spot : Spot → Around → Around
around_spot LoopBody a = record a { in_loop = true }
around_spot LeftSide a = record a { role = left_role a.role }
around_spot (RightSide dot k r) a = record a { role = right_role dot k.breaks r }

-- around the parts of a node: whole expressions, but for the sides of a `Dot` or an `Index`
abbrev pub around_parts : Node → Around → Around
around_parts (OfExpr (Dot k l r)) a = a
around_parts (OfExpr (Index k l r)) a = a
around_parts _ a = record a { role = Whole }

-- P holds of every node, where it stands
abbrev pub throughout : (Around → Node → Type 0) → Walk (Around → Type 0)
throughout P = record {
  none = λ a. Unit {0};
  both = λ p q a. p a × q a;
  node = λ n p a. P a n × p (around_parts n a);
  within = λ s p a. p (around_spot s a);
  arms = λ t ps. arms_at (λ a. Unit {0}) (λ p q a. p a × q a) ps (listed t);
}
