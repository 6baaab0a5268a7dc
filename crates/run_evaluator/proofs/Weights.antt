-- What parts weigh, where a function goes into one of them.
use Rattle.std.proofs.Common.{◌≡◌, ℕ, zero, suc, ◌+◌, ◌*◌, ◌<◌, ◌≤◌, List, [], ◌∷◌, length, get_or, Option, Some, None, sym, subst, arith}
use Rattle.std.specs.Prelude.{slice_get, IfSome}
use Rattle.base_tokens.specs.declared.ident.Ident.{Ident}
use Rattle.ast_types.specs.declared.expr.BinaryExpr.{BinaryExpr}
use Rattle.ast_types.specs.declared.expr.Expr.{Expr}
use Rattle.ast_types.specs.declared.stmt.Stmt.{Stmt}
use Rattle.ast_types.specs.Reading.{arms_of, expr_of, exprs_of, pairs_of, stmt_of, stmts_of}
use Rattle.theory_meaning.specs.Tree.{Arms}
use Rattle.theory_meaning.specs.Walk.{over_arms, over_pairs, sum_of, total}
use Rattle.theory_meaning.specs.Weight.{expr_weight, exprs_weight, own_weight, stmt_weight, weight}

abbrev pub arms_weight : Arms → ℕ
arms_weight as' = sum_of (over_arms (total own_weight) as')

abbrev sides_weight : BinaryExpr → ℕ
sides_weight b = expr_weight (expr_of b.lhs) + expr_weight (expr_of b.rhs)

lightest : (bs : List BinaryExpr) (i : ℕ) → IfSome (slice_get bs i) (λ b. sides_weight b ≤ arms_weight (arms_of bs))
lightest [] zero = tt
lightest [] (suc i) = tt
lightest (b ∷ bs) zero = omega arith
lightest (b ∷ bs) (suc i) = above (slice_get bs i) (lightest bs i) where
  above : (o : Option BinaryExpr) → IfSome o (λ c. sides_weight c ≤ arms_weight (arms_of bs)) → IfSome o (λ c. sides_weight c ≤ arms_weight (arms_of (b ∷ bs)))
  above None h = tt
  above (Some c) h = omega (arith, h)

-- an arm weighs no more than all of them
pub arm_weight : (bs : List BinaryExpr) (i : ℕ) (b : BinaryExpr) → Some b ≡ slice_get bs i → sides_weight b ≤ arms_weight (arms_of bs)
arm_weight bs i b h = subst (λ o. IfSome o (λ c. sides_weight c ≤ arms_weight (arms_of bs))) (sym h) (lightest bs i)

-- ---- an item weighs no more than its list

expr_at : (xs : List Expr) (i : ℕ) (d : Expr) → i < length xs → expr_weight (expr_of (get_or xs i d)) ≤ exprs_weight (exprs_of xs)
expr_at [] i d h = absurd (omega (arith, h))
expr_at (x ∷ xs) zero d h = omega arith
expr_at (x ∷ xs) (suc i) d h = omega (arith, expr_at xs i d (omega (arith, h)))

pub expr_item : (xs : List Expr) (i : ℕ) (x : Expr) → i < length xs → x ≡ get_or xs i x → expr_weight (expr_of x) ≤ exprs_weight (exprs_of xs)
expr_item xs i x h is = subst (λ y. expr_weight (expr_of y) ≤ exprs_weight (exprs_of xs)) (sym is) (expr_at xs i x h)

stmt_at : (xs : List Stmt) (i : ℕ) (d : Stmt) → i < length xs → stmt_weight (stmt_of (get_or xs i d)) ≤ weight (stmts_of xs)
stmt_at [] i d h = absurd (omega (arith, h))
stmt_at (x ∷ xs) zero d h = omega arith
stmt_at (x ∷ xs) (suc i) d h = omega (arith, stmt_at xs i d (omega (arith, h)))

pub stmt_item : (xs : List Stmt) (i : ℕ) (x : Stmt) → i < length xs → x ≡ get_or xs i x → stmt_weight (stmt_of x) ≤ weight (stmts_of xs)
stmt_item xs i x h is = subst (λ y. stmt_weight (stmt_of y) ≤ weight (stmts_of xs)) (sym is) (stmt_at xs i x h)

member_at : (xs : List (Ident × Expr)) (i : ℕ) (d : Ident × Expr) → i < length xs → expr_weight (expr_of (get_or xs i d).1) ≤ over_pairs (total own_weight) (pairs_of xs)
member_at [] i d h = absurd (omega (arith, h))
member_at (x ∷ xs) zero d h = omega arith
member_at (x ∷ xs) (suc i) d h = omega (arith, member_at xs i d (omega (arith, h)))

pub member_item : (xs : List (Ident × Expr)) (i : ℕ) (x : Ident × Expr) → i < length xs → x ≡ get_or xs i x → expr_weight (expr_of x.1) ≤ over_pairs (total own_weight) (pairs_of xs)
member_item xs i x h is = subst (λ (y : Ident × Expr). expr_weight (expr_of y.1) ≤ over_pairs (total own_weight) (pairs_of xs)) (sym is) (member_at xs i x h)

-- ---- calls that nest

-- so much more weighs what stands so deep
pub level : ℕ → ℕ → ℕ
level zero bodies = 0
level (suc depth) bodies = level depth bodies + (9 * bodies + 20)

level_up : (less depth bodies : ℕ) → less ≤ depth → level less bodies ≤ level depth bodies
unfolding level
level_up zero depth bodies h = omega arith
level_up (suc less) zero bodies h = absurd (omega (arith, h))
level_up (suc less) (suc depth) bodies h = omega (arith, level_up less depth bodies (omega (arith, h)))

pub level_falls : (depth less bodies body : ℕ) → less < depth → body ≤ bodies → level less bodies + 9 * body + 20 ≤ level depth bodies
unfolding level
level_falls depth less bodies body h w =
    let up : level less bodies + (9 * bodies + 20) ≤ level depth bodies = level_up (suc less) depth bodies (omega (arith, h)) in
    omega (arith, up, w)
