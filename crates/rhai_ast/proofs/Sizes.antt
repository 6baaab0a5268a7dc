-- Each child of a node is smaller than the node.
use Rattle.std.proofs.Common.{◌≡◌, ◌<◌, ◌≤◌, ◌+◌, ◌*◌, ℕ, zero, suc, List, [], ◌∷◌, ◌++◌, map, max, sym, subst, arith}
use Rattle.std.proofs.Math.Nat.{le-max_left, le-max_right, max-le}
use Rattle.theory_meaning.specs.Tree.{Expr, DynamicConstant, BoolConstant, IntegerConstant, FloatConstant, CharConstant, StringConstant, UnitConstant, InterpolatedString, ArrayOf, MapOf, Variable, ThisPtr, Property, MethodCall, BlockExpr, FnCall, Dot, Index, And, Or, Coalesce, Exprs, no_exprs, expr, Pairs, no_pairs, pair, MaybeExpr, no_expr, an_expr, Arms, no_arms, arm, Stmt, Noop, If, Switch, While, Do, For, Var, Assignment, FnCallStmt, Block, TryCatch, ExprStmt, BreakLoop, Return, Import, Export, Share, Stmts, no_stmts, stmt}
use Rattle.theory_meaning.specs.Walk.{Node, OfExpr, OfStmt, Spot, LoopBody, Walk, arm_at, arms_at, listed, over_arms, over_expr, over_exprs, over_maybe, over_pairs, over_stmts, sum_of, total}
use Rattle.rhai_ast.specs.Left.{left_of}
use Rattle.rhai_ast.specs.Nodes.{child_of, node_of}
use Rattle.rhai_ast.specs.declared.walker.children.Children.{Children}
use Rattle.rhai_ast.specs.declared.walker.node.Child as lent
use Rattle.rhai_ast.specs.Children.{AreBelow, Child, anywhere, placed_at, one_step, children, size_of}

abbrev count : Walk ℕ
count = total (λ n. 1)

-- ---- lists

pub wider : (n m : ℕ) (cs : List Child) → n ≤ m → AreBelow n cs → AreBelow m cs
wider n m [] l h = tt
wider n m (c ∷ cs) l h = (omega (arith, l, h.0), wider n m cs l h.1)

append : (n : ℕ) (cs ds : List Child) → AreBelow n cs → AreBelow n ds → AreBelow n (cs ++ ds)
append n [] ds h k = k
append n (c ∷ cs) ds h k = (h.0, append n cs ds h.1 k)

placed : (n : ℕ) (s : Spot) (cs : List Child) → AreBelow n cs → AreBelow n (map (placed_at s) cs)
placed n s [] h = tt
placed n s (c ∷ cs) h = (h.0, placed n s cs h.1)

of_exprs : (es : Exprs) → AreBelow (1 + over_exprs count es) (over_exprs one_step es)
of_exprs no_exprs = tt
of_exprs (expr e es) = (omega arith, wider (1 + over_exprs count es) (1 + over_exprs count (expr e es)) (over_exprs one_step es) (omega arith) (of_exprs es))

of_pairs : (ps : Pairs) → AreBelow (1 + over_pairs count ps) (over_pairs one_step ps)
of_pairs no_pairs = tt
of_pairs (pair k e ps) = (omega arith, wider (1 + over_pairs count ps) (1 + over_pairs count (pair k e ps)) (over_pairs one_step ps) (omega arith) (of_pairs ps))

of_stmts : (ss : Stmts) → AreBelow (1 + over_stmts count ss) (over_stmts one_step ss)
of_stmts no_stmts = tt
of_stmts (stmt s ss) = (omega arith, wider (1 + over_stmts count ss) (1 + over_stmts count (stmt s ss)) (over_stmts one_step ss) (omega arith) (of_stmts ss))

of_maybe : (m : MaybeExpr) → AreBelow (1 + over_maybe count m) (over_maybe one_step m)
of_maybe no_expr = tt
of_maybe (an_expr e) = (omega arith, tt)

of_arm : (as' : Arms) (i : ℕ) → AreBelow (1 + sum_of (over_arms count as')) (arm_at [] (over_arms one_step as') i)
of_arm no_arms i = tt
of_arm (arm c a as') zero = (omega arith, (omega arith, tt))
of_arm (arm c a as') (suc i) = wider (1 + sum_of (over_arms count as')) (1 + sum_of (over_arms count (arm c a as'))) (arm_at [] (over_arms one_step as') i) (omega arith) (of_arm as' i)

of_listed : (as' : Arms) (is : List ℕ) → AreBelow (1 + sum_of (over_arms count as')) (arms_at [] (λ cs ds. cs ++ ds) (over_arms one_step as') is)
of_listed as' [] = tt
of_listed as' (i ∷ is) = append (1 + sum_of (over_arms count as')) (arm_at [] (over_arms one_step as') i) (arms_at [] (λ cs ds. cs ++ ds) (over_arms one_step as') is) (of_arm as' i) (of_listed as' is)

-- ---- nodes

of_blocks : (n : ℕ) (a b : Stmts) → 1 + over_stmts count a ≤ n → 1 + over_stmts count b ≤ n → AreBelow n (over_stmts one_step a ++ over_stmts one_step b)
of_blocks n a b l m = append n (over_stmts one_step a) (over_stmts one_step b) (wider (1 + over_stmts count a) n (over_stmts one_step a) l (of_stmts a)) (wider (1 + over_stmts count b) n (over_stmts one_step b) m (of_stmts b))

of_loop : (n : ℕ) (e : Expr) (ss : Stmts) → over_expr count e < n → 1 + over_stmts count ss ≤ n → AreBelow n (anywhere (OfExpr e) ∷ map (placed_at LoopBody) (over_stmts one_step ss))
of_loop n e ss l m = (l, placed n LoopBody (over_stmts one_step ss) (wider (1 + over_stmts count ss) n (over_stmts one_step ss) m (of_stmts ss)))

of_expr : (e : Expr) → AreBelow (size_of (OfExpr e)) (children (OfExpr e))
of_expr (DynamicConstant v) = tt
of_expr (BoolConstant b) = tt
of_expr (IntegerConstant n) = tt
of_expr (FloatConstant x) = tt
of_expr (CharConstant c) = tt
of_expr (StringConstant t) = tt
of_expr UnitConstant = tt
of_expr (InterpolatedString es) = of_exprs es
of_expr (ArrayOf es) = of_exprs es
of_expr (MapOf ps template) = of_pairs ps
of_expr (Variable ns x) = tt
of_expr ThisPtr = tt
of_expr (Property p) = tt
of_expr (MethodCall c es) = of_exprs es
of_expr (BlockExpr ss) = of_stmts ss
of_expr (FnCall c es) = of_exprs es
of_expr (Dot k l r) = (omega arith, (omega arith, tt))
of_expr (Index k l r) = (omega arith, (omega arith, tt))
of_expr (And es) = of_exprs es
of_expr (Or es) = of_exprs es
of_expr (Coalesce es) = of_exprs es

of_stmt : (s : Stmt) → AreBelow (size_of (OfStmt s)) (children (OfStmt s))
of_stmt Noop = tt
of_stmt (If c a b) = (omega arith, of_blocks (size_of (OfStmt (If c a b))) a b (omega arith) (omega arith))
of_stmt (Switch e as' t) = (omega arith, wider (1 + sum_of (over_arms count as')) (size_of (OfStmt (Switch e as' t))) (arms_at [] (λ cs ds. cs ++ ds) (over_arms one_step as') (listed t)) (omega arith) (of_listed as' (listed t)))
of_stmt (While e b) = of_loop (size_of (OfStmt (While e b))) e b (omega arith) (omega arith)
of_stmt (Do negated exported e b) = of_loop (size_of (OfStmt (Do negated exported e b))) e b (omega arith) (omega arith)
of_stmt (For x i e b) = of_loop (size_of (OfStmt (For x i e b))) e b (omega arith) (omega arith)
of_stmt (Var constant exported x e) = (omega arith, tt)
of_stmt (Assignment op l e) = (omega arith, (omega arith, tt))
of_stmt (FnCallStmt c es) = of_exprs es
of_stmt (Block ss) = of_stmts ss
of_stmt (TryCatch x a b) = of_blocks (size_of (OfStmt (TryCatch x a b))) a b (omega arith) (omega arith)
of_stmt (ExprStmt e) = (omega arith, tt)
of_stmt (BreakLoop breaks exported m) = of_maybe m
of_stmt (Return throws exported m) = of_maybe m
of_stmt (Import e x) = (omega arith, tt)
of_stmt (Export x y) = tt
of_stmt (Share xs) = tt

pub children_below : (n : Node) → AreBelow (size_of n) (children n)
children_below (OfExpr e) = of_expr e
children_below (OfStmt s) = of_stmt s

-- ---- one child after another

-- the least number above the sizes of all
abbrev pub above : List Child → ℕ
above [] = 0
above (c ∷ cs) = max (1 + size_of c.node) (above cs)

pub below-above : (cs : List Child) → AreBelow (above cs) cs
below-above [] = tt
below-above (c ∷ cs) = (omega (arith, le-max_left (1 + size_of c.node) (above cs)), wider (above cs) (above (c ∷ cs)) cs (le-max_right (1 + size_of c.node) (above cs)) (below-above cs))

above-least : (n : ℕ) (cs : List Child) → AreBelow n cs → above cs ≤ n
above-least n [] h = omega arith
above-least n (c ∷ cs) h = max-le (omega (arith, h.0)) (above-least n cs h.1)

-- a loop over children begins, and goes on
pub below-start : (cs ds : Children) → ds ≡ cs → AreBelow (above (left_of cs)) (left_of ds)
below-start cs ds e = subst (λ es. AreBelow (above (left_of cs)) (left_of es)) (sym e) (below-above (left_of cs))

pub below-next : (size : ℕ) (cs ds : Children) (c : lent.Child) → left_of cs ≡ child_of c ∷ left_of ds → AreBelow size (left_of cs) → (size_of (node_of c.node) < size) × AreBelow size (left_of ds)
below-next size cs ds c e h = subst (AreBelow size) e h

-- two functions, one over children, the other over what is below a node: each calls the other with less
abbrev pub over_measure : Children → ℕ
over_measure cs = 2 * above (left_of cs)

abbrev pub below_measure : Node → ℕ
below_measure n = 2 * size_of n + 1

pub measure-falls : (n : Node) (cs : Children) → left_of cs ≡ children n → over_measure cs < below_measure n
measure-falls n cs e =
    let least : above (left_of cs) ≤ size_of n = above-least (size_of n) (left_of cs) (subst (AreBelow (size_of n)) (sym e) (children_below n)) in
    omega (arith, least)
