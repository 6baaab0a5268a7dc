-- Laws of the walk: what holds of two walks at each node holds of them over a whole tree.
use Rattle.std.proofs.Common.{◌≡◌, ℕ, zero, suc, ◌+◌, List, [], ◌∷◌, arith}
use Rattle.theory_meaning.specs.Tree.{SwitchTable, Expr, InterpolatedString, ArrayOf, MapOf, MethodCall, BlockExpr, FnCall, Dot, Index, And, Or, Coalesce, Exprs, no_exprs, expr, Pairs, no_pairs, pair, MaybeExpr, no_expr, an_expr, Arms, no_arms, arm, Stmt, If, Switch, While, Do, For, Var, Assignment, FnCallStmt, Block, TryCatch, ExprStmt, BreakLoop, Return, Import, Stmts, no_stmts, stmt, joined}
use Rattle.theory_meaning.specs.Walk.{Node, Spot, Walk, parts_of_expr, parts_of_stmt, over_exprs, over_pairs, over_maybe, over_arms, over_stmts, arm_at, arms_at, listed, every, total, Around, around_spot, around_parts, throughout}

-- R is kept by both walks, step by step
pub record Alongside {ℓ κ μ} {A : Type ℓ} {B : Type κ} (R : A → B → Type μ) (w : Walk A) (v : Walk B) : Type (ℓ ⊔ κ ⊔ μ) where
  pub none : R w.none v.none
  pub both : (a a' : A) (b b' : B) → R a b → R a' b' → R (w.both a a') (v.both b b')
  pub node : (n : Node) (a : A) (b : B) → R a b → R (w.node n a) (v.node n b)
  pub within : (s : Spot) (a : A) (b : B) → R a b → R (w.within s a) (v.within s b)
  pub arms : (t : SwitchTable) (as' : List A) (bs : List B) → ((i : ℕ) → R (arm_at w.none as' i) (arm_at v.none bs i)) → R (w.arms t as') (v.arms t bs)

module _ {ℓ κ μ} {A : Type ℓ} {B : Type κ} (R : A → B → Type μ) (w : Walk A) (v : Walk B) (g : Alongside R w v) where
  mutual
    pub parts_alongside : (e : Expr) → R (parts_of_expr w e) (parts_of_expr v e)
    parts_alongside (InterpolatedString es) = exprs_alongside es
    parts_alongside (ArrayOf es) = exprs_alongside es
    parts_alongside (MapOf ps template) = pairs_alongside ps
    parts_alongside (MethodCall c es) = exprs_alongside es
    parts_alongside (BlockExpr ss) = stmts_alongside ss
    parts_alongside (FnCall c es) = exprs_alongside es
    parts_alongside (Dot k l r) = g.both _ _ _ _ (g.within _ _ _ (g.node _ _ _ (parts_alongside l))) (g.within _ _ _ (g.node _ _ _ (parts_alongside r)))
    parts_alongside (Index k l r) = g.both _ _ _ _ (g.within _ _ _ (g.node _ _ _ (parts_alongside l))) (g.within _ _ _ (g.node _ _ _ (parts_alongside r)))
    parts_alongside (And es) = exprs_alongside es
    parts_alongside (Or es) = exprs_alongside es
    parts_alongside (Coalesce es) = exprs_alongside es
    parts_alongside _ = g.none

    pub stmt_parts_alongside : (s : Stmt) → R (parts_of_stmt w s) (parts_of_stmt v s)
    stmt_parts_alongside (If c a b) = g.both _ _ _ _ (g.node _ _ _ (parts_alongside c)) (g.both _ _ _ _ (stmts_alongside a) (stmts_alongside b))
    stmt_parts_alongside (Switch e as' t) = g.both _ _ _ _ (g.node _ _ _ (parts_alongside e)) (g.arms _ _ _ (λ i. arms_alongside as' i))
    stmt_parts_alongside (While e b) = g.both _ _ _ _ (g.node _ _ _ (parts_alongside e)) (g.within _ _ _ (stmts_alongside b))
    stmt_parts_alongside (Do negated exported e b) = g.both _ _ _ _ (g.node _ _ _ (parts_alongside e)) (g.within _ _ _ (stmts_alongside b))
    stmt_parts_alongside (For x i e b) = g.both _ _ _ _ (g.node _ _ _ (parts_alongside e)) (g.within _ _ _ (stmts_alongside b))
    stmt_parts_alongside (Var constant exported x e) = g.node _ _ _ (parts_alongside e)
    stmt_parts_alongside (Assignment op l e) = g.both _ _ _ _ (g.node _ _ _ (parts_alongside l)) (g.node _ _ _ (parts_alongside e))
    stmt_parts_alongside (FnCallStmt c es) = exprs_alongside es
    stmt_parts_alongside (Block ss) = stmts_alongside ss
    stmt_parts_alongside (TryCatch x a b) = g.both _ _ _ _ (stmts_alongside a) (stmts_alongside b)
    stmt_parts_alongside (ExprStmt e) = g.node _ _ _ (parts_alongside e)
    stmt_parts_alongside (BreakLoop breaks exported m) = maybe_alongside m
    stmt_parts_alongside (Return throws exported m) = maybe_alongside m
    stmt_parts_alongside (Import e x) = g.node _ _ _ (parts_alongside e)
    stmt_parts_alongside _ = g.none

    pub exprs_alongside : (es : Exprs) → R (over_exprs w es) (over_exprs v es)
    exprs_alongside no_exprs = g.none
    exprs_alongside (expr e es) = g.both _ _ _ _ (g.node _ _ _ (parts_alongside e)) (exprs_alongside es)

    pub pairs_alongside : (ps : Pairs) → R (over_pairs w ps) (over_pairs v ps)
    pairs_alongside no_pairs = g.none
    pairs_alongside (pair k e ps) = g.both _ _ _ _ (g.node _ _ _ (parts_alongside e)) (pairs_alongside ps)

    pub maybe_alongside : (m : MaybeExpr) → R (over_maybe w m) (over_maybe v m)
    maybe_alongside no_expr = g.none
    maybe_alongside (an_expr e) = g.node _ _ _ (parts_alongside e)

    -- each arm by its index
    pub arms_alongside : (as' : Arms) (i : ℕ) → R (arm_at w.none (over_arms w as') i) (arm_at v.none (over_arms v as') i)
    arms_alongside no_arms i = g.none
    arms_alongside (arm c a as') zero = g.both _ _ _ _ (g.node _ _ _ (parts_alongside c)) (g.node _ _ _ (parts_alongside a))
    arms_alongside (arm c a as') (suc i) = arms_alongside as' i

    pub stmts_alongside : (ss : Stmts) → R (over_stmts w ss) (over_stmts v ss)
    stmts_alongside no_stmts = g.none
    stmts_alongside (stmt s ss) = g.both _ _ _ _ (g.node _ _ _ (stmt_parts_alongside s)) (stmts_alongside ss)

-- what is kept at each arm is kept of the arms that a table lists
arms_throughout : (ps : List (Type 0)) (qs : List (Around → Type 0)) → ((i : ℕ) (a : Around) → (arm_at (Unit {0}) ps i → arm_at (λ b. Unit {0}) qs i a) × (arm_at (λ b. Unit {0}) qs i a → arm_at (Unit {0}) ps i)) → (is : List ℕ) (a : Around) → (arms_at (Unit {0}) (λ p q. p × q) ps is → arms_at (λ b. Unit {0}) (λ p q b. p b × q b) qs is a) × (arms_at (λ b. Unit {0}) (λ p q b. p b × q b) qs is a → arms_at (Unit {0}) (λ p q. p × q) ps is)
arms_throughout ps qs h [] a = ((λ u. u), (λ u. u))
arms_throughout ps qs h (i ∷ is) a =
    let z = arms_throughout ps qs h is a in
    ((λ x. ((h i a).0 x.0, z.0 x.1)), (λ x. ((h i a).1 x.0, z.1 x.1)))

-- ---- one list after another

pub total_joined : (f : Node → ℕ) (front back : Stmts) → over_stmts (total f) (joined front back) ≡ over_stmts (total f) front + over_stmts (total f) back
total_joined f no_stmts back = omega arith
total_joined f (stmt s front) back = omega (arith, total_joined f front back)

pub throughout_joined : (P : Around → Node → Type 0) (a : Around) (front back : Stmts) → over_stmts (throughout P) front a → over_stmts (throughout P) back a → over_stmts (throughout P) (joined front back) a
throughout_joined P a no_stmts back h k = k
throughout_joined P a (stmt s front) back h k = (h.0, throughout_joined P a front back h.1 k)

-- what doesn't ask where a node stands
pub every_throughout : (P : Node → Type 0) → Alongside (λ p q. (a : Around) → (p → q a) × (q a → p)) (every P) (throughout (λ a n. P n))
every_throughout P = record {
  none = λ a. ((λ u. u), (λ u. u));
  both = λ p p' q q' h k a. ((λ x. ((h a).0 x.0, (k a).0 x.1)), (λ x. ((h a).1 x.0, (k a).1 x.1)));
  node = λ n p q h a. ((λ x. (x.0, (h (around_parts n a)).0 x.1)), (λ x. (x.0, (h (around_parts n a)).1 x.1)));
  within = λ s p q h a. h (around_spot s a);
  arms = λ t ps qs h. arms_throughout ps qs h (listed t);
}
