-- A well-formed tree that is reduced wherever the optimiser reaches is irreducible at every depth.
use Rattle.std.proofs.Common.{◌≡◌, ℕ, zero, suc, Bool, true, false, List, [], ◌∷◌, Some, None, refl}
use Rattle.theory_meaning.specs.Engine.{Engine}
use Rattle.theory_meaning.specs.Faults.{TreeFault, ChainShape, AssignTarget, SwitchFault, unless, faultless, IsWellFormedExpr, AreWellFormedExprs, IsWellFormed, AreWellFormed}
use Rattle.theory_meaning.specs.Shape.{is_member, is_argument, is_rest, is_table, is_left_side}
use Rattle.theory_meaning.specs.Tree.{Expr, InterpolatedString, ArrayOf, MapOf, Property, MethodCall, BlockExpr, FnCall, Dot, Index, And, Or, Coalesce, Exprs, no_exprs, expr, Pairs, no_pairs, pair, MaybeExpr, no_expr, an_expr, Arms, no_arms, arm, Stmt, If, Switch, While, Do, For, Var, Assignment, FnCallStmt, Block, TryCatch, ExprStmt, BreakLoop, Return, Import, Stmts, no_stmts, stmt}
use Rattle.theory_meaning.specs.Walk.{Member, Rest, left_role, right_role, whole, outermost, every, over_expr, over_exprs, over_pairs, over_maybe, over_arms, over_stmt, over_stmts, arm_at, arms_at, listed}
use Rattle.theory_meaning.proofs.PureTrees.{split}
use Rattle.theory_rewriting.specs.Reducible.{IsIrreducibleNode, IsIrreducibleBody}
use Rattle.theory_rewriting.specs.Residue.{when, every_reached, IsReducedNode, IsReducedExpr, AreReducedExprs, AreReducedPairs, IsReducedMaybe, IsReduced, AreReduced}
use Rattle.theory_rewriting.specs.Steps.{IsReducedBody}

impossible : {A : Type 0} → false ≡ true → A
impossible h = absurd (let z : false ≡ true = h in cc)

where_true : (b : Bool) {p : Type 0} → b ≡ true → when b p → p
where_true true h x = x
where_true false h x = impossible h

meets : (f : TreeFault) (b : Bool) → unless b f ≡ None → b ≡ true
meets f true h = refl
meets f false h = absurd (let z : Some f ≡ None = h in cc)

rest_member : (e : Expr) → is_rest true true e ≡ true → is_member e ≡ true
rest_member (Dot m a b) h = impossible h
rest_member (Index m a b) h = impossible h
rest_member _ h = h

module _ (r : Engine) where
  abbrev Irreducible : Expr → Type 0
  Irreducible e = over_expr (every (IsIrreducibleNode r)) e

  -- the right side of a chain's node, by where it stands
  right_by : (l dot breaks : Bool) (e : Expr) → is_rest dot breaks e ≡ true → over_expr faultless e (record { in_loop = l; role = right_role dot breaks e }) → (IsWellFormedExpr (whole l) e → Irreducible e) → (is_member e ≡ true → over_expr faultless e (record { in_loop = l; role = Member }) → Irreducible e) → (is_rest dot false e ≡ true → over_expr faultless e (record { in_loop = l; role = right_role dot false e }) → Irreducible e) → Irreducible e
  right_by l true true e h w f g k = g (rest_member e h) w
  right_by l false true e h w f g k = f w
  right_by l dot false e h w f g k = k h w

  -- and the argument of one inside
  argument_by : (l dot : Bool) (e : Expr) → is_argument dot e ≡ true → over_expr faultless e (record { in_loop = l; role = left_role (Rest dot) }) → (IsWellFormedExpr (whole l) e → Irreducible e) → (is_member e ≡ true → over_expr faultless e (record { in_loop = l; role = Member }) → Irreducible e) → Irreducible e
  argument_by l true e h w f g = g h w
  argument_by l false e h w f g = f w

  each_listed : (l : Bool) (as' : Arms) (is : List ℕ) → arms_at (Unit {0}) (λ p q. p × q) (over_arms (every_reached (IsReducedNode r)) as') is → arms_at (λ a. Unit {0}) (λ p q a. p a × q a) (over_arms faultless as') is (whole l) → ((i : ℕ) → arm_at (Unit {0}) (over_arms (every_reached (IsReducedNode r)) as') i → arm_at (λ a. Unit {0}) (over_arms faultless as') i (whole l) → arm_at (Unit {0}) (over_arms (every (IsIrreducibleNode r)) as') i) → arms_at (Unit {0}) (λ p q. p × q) (over_arms (every (IsIrreducibleNode r)) as') is
  each_listed l as' [] h w f = tt
  each_listed l as' (i ∷ is) h w f = (f i h.0 w.0, each_listed l as' is h.1 w.1 f)

  mutual
    expr_irreducible : (l : Bool) (e : Expr) → IsReducedExpr r e → IsWellFormedExpr (whole l) e → Irreducible e
    expr_irreducible l (InterpolatedString es) h w = (record { alone = h.0; lists = tt; expressions = h.1.1.0 }, exprs_irreducible l es h.1.1.1 w.1)
    expr_irreducible l (ArrayOf es) h w = (record { alone = h.0; lists = tt; expressions = h.1.1.0 }, exprs_irreducible l es h.1.1.1 w.1)
    expr_irreducible l (MapOf ps template) h w = (record { alone = h.0; lists = tt; expressions = h.1.1.0 }, pairs_irreducible l ps h.1.1.1 w.1)
    expr_irreducible l (Property p) h w = absurd (let z : Some ChainShape ≡ None = w.0 in cc)
    expr_irreducible l (MethodCall c es) h w = absurd (let z : Some ChainShape ≡ None = w.0 in cc)
    expr_irreducible l (BlockExpr ss) h w = (record { alone = h.0; lists = h.1.0; expressions = h.1.1.0 }, stmts_irreducible l ss h.1.1.1 w.1)
    expr_irreducible l (FnCall c es) h w = (record { alone = h.0; lists = tt; expressions = h.1.1.0 }, exprs_irreducible l es h.1.1.1 w.1)
    expr_irreducible l (Dot f e s) h w =
        let fits = meets ChainShape (is_rest true f.breaks s) w.0 in
        let right = where_true (is_rest true f.breaks s) fits h.1.1.1.1 in
        (record { alone = tt; lists = tt; expressions = where_true (is_rest true f.breaks s) fits h.1.1.0 }, (expr_irreducible l e h.1.1.1.0 w.1.0, right_by l true f.breaks s fits w.1.1 (expr_irreducible l s right) (member_irreducible l s right) (rest_irreducible l true s right)))
    expr_irreducible l (Index f e s) h w =
        let fits = meets ChainShape (is_rest false f.breaks s) w.0 in
        let right = where_true (is_rest false f.breaks s) fits h.1.1.1.1 in
        (record { alone = tt; lists = tt; expressions = where_true (is_rest false f.breaks s) fits h.1.1.0 }, (expr_irreducible l e h.1.1.1.0 w.1.0, right_by l false f.breaks s fits w.1.1 (expr_irreducible l s right) (member_irreducible l s right) (rest_irreducible l false s right)))
    expr_irreducible l (And es) h w = (record { alone = h.0; lists = tt; expressions = h.1.1.0 }, exprs_irreducible l es h.1.1.1 w.1)
    expr_irreducible l (Or es) h w = (record { alone = h.0; lists = tt; expressions = h.1.1.0 }, exprs_irreducible l es h.1.1.1 w.1)
    expr_irreducible l (Coalesce es) h w = (record { alone = h.0; lists = tt; expressions = h.1.1.0 }, exprs_irreducible l es h.1.1.1 w.1)
    expr_irreducible l _ h w = (record { alone = tt; lists = tt; expressions = tt }, tt)

    -- what stands at the right of a `Dot`
    member_irreducible : (l : Bool) (e : Expr) → IsReducedExpr r e → is_member e ≡ true → over_expr faultless e (record { in_loop = l; role = Member }) → Irreducible e
    member_irreducible l (Property p) h q w = (record { alone = tt; lists = tt; expressions = tt }, tt)
    member_irreducible l (MethodCall c es) h q w = (record { alone = tt; lists = tt; expressions = h.1.1.0 }, exprs_irreducible l es h.1.1.1 w.1)
    member_irreducible l _ h q w = impossible q

    -- the rest of a chain
    rest_irreducible : (l dot : Bool) (e : Expr) → IsReducedExpr r e → is_rest dot false e ≡ true → over_expr faultless e (record { in_loop = l; role = right_role dot false e }) → Irreducible e
    rest_irreducible l dot (Dot m a b) h q w =
        let z = split (is_argument dot a) (is_rest true m.breaks b) q in
        let right = where_true (is_rest true m.breaks b) z.1 h.1.1.1.1 in
        let left = argument_by l dot a z.0 w.1.0 (expr_irreducible l a h.1.1.1.0) (member_irreducible l a h.1.1.1.0) in
        (record { alone = tt; lists = tt; expressions = where_true (is_rest true m.breaks b) z.1 h.1.1.0 }, (left, right_by l true m.breaks b z.1 w.1.1 (expr_irreducible l b right) (member_irreducible l b right) (rest_irreducible l true b right)))
    rest_irreducible l dot (Index m a b) h q w =
        let z = split (is_argument dot a) (is_rest false m.breaks b) q in
        let right = where_true (is_rest false m.breaks b) z.1 h.1.1.1.1 in
        let left = argument_by l dot a z.0 w.1.0 (expr_irreducible l a h.1.1.1.0) (member_irreducible l a h.1.1.1.0) in
        (record { alone = tt; lists = tt; expressions = where_true (is_rest false m.breaks b) z.1 h.1.1.0 }, (left, right_by l false m.breaks b z.1 w.1.1 (expr_irreducible l b right) (member_irreducible l b right) (rest_irreducible l false b right)))
    rest_irreducible l true (MethodCall c es) h q w = (record { alone = tt; lists = tt; expressions = h.1.1.0 }, exprs_irreducible l es h.1.1.1 w.1)
    rest_irreducible l true (Property p) h q w = (record { alone = tt; lists = tt; expressions = tt }, tt)
    rest_irreducible l true _ h q w = impossible q
    rest_irreducible l false _ h q w = impossible q

    exprs_irreducible : (l : Bool) (es : Exprs) → AreReducedExprs r es → AreWellFormedExprs (whole l) es → over_exprs (every (IsIrreducibleNode r)) es
    exprs_irreducible l no_exprs h w = tt
    exprs_irreducible l (expr e es) h w = (expr_irreducible l e h.0 w.0, exprs_irreducible l es h.1 w.1)

    pairs_irreducible : (l : Bool) (ps : Pairs) → AreReducedPairs r ps → over_pairs faultless ps (whole l) → over_pairs (every (IsIrreducibleNode r)) ps
    pairs_irreducible l no_pairs h w = tt
    pairs_irreducible l (pair x e ps) h w = (expr_irreducible l e h.0 w.0, pairs_irreducible l ps h.1 w.1)

    maybe_irreducible : (l : Bool) (m : MaybeExpr) → IsReducedMaybe r m → over_maybe faultless m (whole l) → over_maybe (every (IsIrreducibleNode r)) m
    maybe_irreducible l no_expr h w = tt
    maybe_irreducible l (an_expr e) h w = expr_irreducible l e h w

    arms_irreducible : (l : Bool) (as' : Arms) (i : ℕ) → arm_at (Unit {0}) (over_arms (every_reached (IsReducedNode r)) as') i → arm_at (λ a. Unit {0}) (over_arms faultless as') i (whole l) → arm_at (Unit {0}) (over_arms (every (IsIrreducibleNode r)) as') i
    arms_irreducible l no_arms i h w = tt
    arms_irreducible l (arm c a as') zero h w = (expr_irreducible l c h.0 w.0, expr_irreducible l a h.1 w.1)
    arms_irreducible l (arm c a as') (suc i) h w = arms_irreducible l as' i h w

    stmt_irreducible : (l : Bool) (s : Stmt) → IsReduced r s → IsWellFormed (whole l) s → over_stmt (every (IsIrreducibleNode r)) s
    stmt_irreducible l (If c a b) h w = (record { alone = h.0; lists = h.1.0; expressions = h.1.1.0 }, (expr_irreducible l c h.1.1.1.0 w.1.0, (stmts_irreducible l a h.1.1.1.1.0 w.1.1.0, stmts_irreducible l b h.1.1.1.1.1 w.1.1.1)))
    stmt_irreducible l (Switch e as' t) h w = (record { alone = h.0 (meets SwitchFault (is_table as' t) w.0); lists = tt; expressions = h.1.1.0 }, (expr_irreducible l e h.1.1.1.0 w.1.0, each_listed l as' (listed t) h.1.1.1.1 w.1.1 (arms_irreducible l as')))
    stmt_irreducible l (While e b) h w = (record { alone = h.0; lists = h.1.0; expressions = h.1.1.0 }, (expr_irreducible l e h.1.1.1.0 w.1.0, stmts_irreducible true b h.1.1.1.1 w.1.1))
    stmt_irreducible l (Do negated exported e b) h w = (record { alone = tt; lists = h.1.0; expressions = h.1.1.0 }, (expr_irreducible l e h.1.1.1.0 w.1.0, stmts_irreducible true b h.1.1.1.1 w.1.1))
    stmt_irreducible l (For x i e b) h w = (record { alone = tt; lists = h.1.0; expressions = h.1.1.0 }, (expr_irreducible l e h.1.1.1.0 w.1.0, stmts_irreducible true b h.1.1.1.1 w.1.1))
    stmt_irreducible l (Var constant exported x e) h w = (record { alone = tt; lists = tt; expressions = h.1.1.0 }, expr_irreducible l e h.1.1.1 w.1)
    stmt_irreducible l (Assignment op t e) h w =
        let fits = meets AssignTarget (is_left_side t) w.0 in
        let parts = where_true (is_left_side t) fits h.1 in
        (record { alone = tt; lists = tt; expressions = parts.1.0 }, (expr_irreducible l t parts.1.1.0 w.1.0, expr_irreducible l e parts.1.1.1 w.1.1))
    stmt_irreducible l (FnCallStmt c es) h w = (record { alone = h.0; lists = tt; expressions = h.1.1.0 }, exprs_irreducible l es h.1.1.1 w.1)
    stmt_irreducible l (Block ss) h w = (record { alone = tt; lists = h.1.0; expressions = h.1.1.0 }, stmts_irreducible l ss h.1.1.1 w.1)
    stmt_irreducible l (TryCatch x a b) h w = (record { alone = tt; lists = h.1.0; expressions = h.1.1.0 }, (stmts_irreducible l a h.1.1.1.0 w.1.0, stmts_irreducible l b h.1.1.1.1 w.1.1))
    stmt_irreducible l (ExprStmt e) h w = (record { alone = tt; lists = tt; expressions = h.1.1.0 }, expr_irreducible l e h.1.1.1 w.1)
    stmt_irreducible l (BreakLoop breaks exported m) h w = (record { alone = tt; lists = tt; expressions = h.1.1.0 }, maybe_irreducible l m h.1.1.1 w.1)
    stmt_irreducible l (Return throws exported m) h w = (record { alone = tt; lists = tt; expressions = h.1.1.0 }, maybe_irreducible l m h.1.1.1 w.1)
    stmt_irreducible l (Import e x) h w = (record { alone = tt; lists = tt; expressions = h.1.1.0 }, expr_irreducible l e h.1.1.1 w.1)
    stmt_irreducible l _ h w = (record { alone = tt; lists = tt; expressions = tt }, tt)

    stmts_irreducible : (l : Bool) (ss : Stmts) → AreReduced r ss → AreWellFormed (whole l) ss → over_stmts (every (IsIrreducibleNode r)) ss
    stmts_irreducible l no_stmts h w = tt
    stmts_irreducible l (stmt s ss) h w = (stmt_irreducible l s h.0 w.0, stmts_irreducible l ss h.1 w.1)

pub body_irreducible : (r : Engine) (ss : Stmts) → IsReducedBody r ss → AreWellFormed outermost ss → IsIrreducibleBody r ss
body_irreducible r ss h w = record { list = h.list; returns_nothing = h.returns_nothing; nodes = stmts_irreducible r false ss h.nodes w }
