-- In normal form, where its value is not wanted, a statement is pure only by itself: nothing pure is left in its lists, so they are empty.
use Rattle.std.proofs.Common.{◌≡◌, ◌+◌, ◌≤◌, Bool, true, false, refl, ap, arith}
use Rattle.std.specs.Prelude.{◌&&◌, Option}
use Rattle.rhai_base.specs.Value.{Text}
use Rattle.theory_meaning.specs.Queries.{is_pure, is_pure_expr, are_pure, is_internally_pure, is_literally}
use Rattle.theory_meaning.specs.Shape.{catch_name}
use Rattle.theory_meaning.specs.Tree.{Expr, Stmt, If, Do, For, Block, TryCatch, Stmts, no_stmts, stmt}
use Rattle.theory_meaning.specs.Weight.{weight}
use Rattle.theory_rewriting.specs.Context.{Context, ListContext, ListKind, Whole, Inside, wanted_before, open_list, naming, naming_some, naming_catch}
use Rattle.theory_rewriting.specs.Normal.{IsNormal}
use Rattle.theory_rewriting.specs.Rewriting.{same_expr, StmtTo, in_if, in_do, in_for, in_block, in_try, RestTo, same_stmts, by_list_rule}
use Rattle.theory_rewriting.specs.Rules as rule
use Rattle.theory_rewriting.specs.Rules.{is_pure_in}
use Rattle.theory_rewriting.specs.SurelyUnit.{is_surely_unit}
use Rattle.theory_rewriting.proofs.Weights.{stmts_fall}
use Rattle.opt_lists.specs.Sweep.{is_nothing, holds_nothing, is_pure_by_itself, is_inside_by_itself, is_pure_unit}
use Rattle.opt_lists.proofs.Sweeping.{no, all_of, second, both}

never_wanted : (ss : Stmts) → wanted_before false ss ≡ false
never_wanted no_stmts = refl
never_wanted (stmt s ss) = refl

-- a list whose value is not wanted
empty_list : (k : ListContext) (ss : Stmts) → ((d' : Bool) (ss' : Stmts) → RestTo k (Inside false) true false d' ss ss' → ss' ≡ ss) → are_pure ss ≡ true → is_nothing ss ≡ true
empty_list k no_stmts n p = refl
empty_list k (stmt s ss) n p = all_of (is_pure s) (are_pure ss) p (λ h _.
    let goes : RestTo k (Inside false) true false true (stmt s ss) ss = by_list_rule (rule.pure_goes (never_wanted ss) h) in
    let e : weight ss ≡ weight (stmt s ss) = ap weight (n true ss goes) in
    let l : weight ss + 1 ≤ weight (stmt s ss) = stmts_fall goes in
    absurd (omega (arith, e, l)))

-- ---- the lists of a statement

if_first : {e : Expr} {a a' b : Stmts} → If e a' b ≡ If e a b → a' ≡ a
if_first h = cc

if_second : {e : Expr} {a b b' : Stmts} → If e a b' ≡ If e a b → b' ≡ b
if_second h = cc

do_list : {negated exported : Bool} {e : Expr} {b b' : Stmts} → Do negated exported e b' ≡ Do negated exported e b → b' ≡ b
do_list h = cc

for_list : {x : Text} {i : Option Text} {e : Expr} {b b' : Stmts} → For x i e b' ≡ For x i e b → b' ≡ b
for_list h = cc

block_list : {ss ss' : Stmts} → Block ss' ≡ Block ss → ss' ≡ ss
block_list h = cc

try_first : {x : Expr} {a a' b : Stmts} → TryCatch x a' b ≡ TryCatch x a b → a' ≡ a
try_first h = cc

try_second : {x : Expr} {a b b' : Stmts} → TryCatch x a b' ≡ TryCatch x a b → b' ≡ b
try_second h = cc

-- ---- a statement

do_emptied : {k : Context} {w negated exported : Bool} {e : Expr} (b : Stmts) → IsNormal (StmtTo k w) (Do negated exported e b) → are_pure b ≡ true → is_nothing b ≡ true
do_emptied {k = k} {negated = negated} {exported = exported} {e = e} b n p = empty_list (open_list k) b (λ d' b' r. do_list (n false d' (Do negated exported e b') (in_do same_expr r))) p

for_emptied : {k : Context} {w : Bool} {x : Text} {i : Option Text} {e : Expr} (b : Stmts) → IsNormal (StmtTo k w) (For x i e b) → are_pure b ≡ true → is_nothing b ≡ true
for_emptied {k = k} {x = x} {i = i} {e = e} b n p = empty_list (open_list (naming x (naming_some i k))) b (λ d' b' r. for_list (n false d' (For x i e b') (in_for same_expr r))) p

try_emptied : {k : Context} {w : Bool} {x : Expr} (a b : Stmts) → IsNormal (StmtTo k w) (TryCatch x a b) → are_pure a && are_pure b ≡ true → is_nothing a && is_nothing b ≡ true
try_emptied {k = k} {x = x} a b n p = all_of (are_pure a) (are_pure b) p (λ y z. both
    (empty_list (open_list k) a (λ d' a' r. try_first (n false d' (TryCatch x a' b) (in_try r same_stmts))) y)
    (empty_list (open_list (naming_catch (catch_name x) k)) b (λ d' b' r. try_second (n false d' (TryCatch x a b') (in_try same_stmts r))) z))

if_emptied : {k : Context} {e : Expr} (a b : Stmts) → IsNormal (StmtTo k false) (If e a b) → are_pure a && are_pure b ≡ true → is_nothing a && is_nothing b ≡ true
if_emptied {k = k} {e = e} a b n p = all_of (are_pure a) (are_pure b) p (λ y z. both
    (empty_list (open_list k) a (λ d' a' r. if_first (n false d' (If e a' b) (in_if same_expr r same_stmts))) y)
    (empty_list (open_list k) b (λ d' b' r. if_second (n false d' (If e a b') (in_if same_expr same_stmts r))) z))

block_emptied : {k : Context} (ss : Stmts) → IsNormal (StmtTo k false) (Block ss) → are_pure ss ≡ true → is_nothing ss ≡ true
block_emptied {k = k} ss n p = empty_list (open_list k) ss (λ d' ss' r. block_list (n false d' (Block ss') (in_block r))) p

-- the lists in it are pure
abbrev pub lists_pure : Stmt → Bool
lists_pure (If e a b) = are_pure a && are_pure b
lists_pure (Do negated exported e b) = are_pure b
lists_pure (For x i e b) = are_pure b
lists_pure (Block ss) = are_pure ss
lists_pure (TryCatch x a b) = are_pure a && are_pure b
lists_pure _ = true

-- its value is not wanted
emptied : {k : Context} (s : Stmt) → IsNormal (StmtTo k false) s → lists_pure s ≡ true → holds_nothing s ≡ true
emptied (If e a b) n p = if_emptied a b n p
emptied (Do negated exported e b) n p = do_emptied b n p
emptied (For x i e b) n p = for_emptied b n p
emptied (Block ss) n p = block_emptied ss n p
emptied (TryCatch x a b) n p = try_emptied a b n p
emptied _ n p = refl

-- wanted or not, where it is surely unit: the value of its lists is not wanted
unit_emptied : {k : Context} {w : Bool} (s : Stmt) → IsNormal (StmtTo k w) s → lists_pure s ≡ true → is_surely_unit s ≡ true → holds_nothing s ≡ true
unit_emptied (If e a b) n p u = no u
unit_emptied (Block ss) n p u = no u
unit_emptied (Do negated exported e b) n p u = do_emptied b n p
unit_emptied (For x i e b) n p u = for_emptied b n p
unit_emptied (TryCatch x a b) n p u = try_emptied a b n p
unit_emptied _ n p u = refl

-- ---- what is pure has pure lists

of_pure : (s : Stmt) → is_pure s ≡ true → lists_pure s ≡ true
of_pure (If e a b) p = second (is_pure_expr e) p
of_pure (Do negated exported e b) p = second (is_literally negated e) p
of_pure (For x i e b) p = second (is_pure_expr e) p
of_pure (Block ss) p = p
of_pure (TryCatch x a b) p = second (is_pure_expr x) p
of_pure _ p = refl

of_inside : (s : Stmt) → is_internally_pure s ≡ true → lists_pure s ≡ true
of_inside (If e a b) p = second (is_pure_expr e) p
of_inside (Do negated exported e b) p = second (is_literally negated e) p
of_inside (For x i e b) p = second (is_pure_expr e) p
of_inside (Block ss) p = p
of_inside (TryCatch x a b) p = second (is_pure_expr x) p
of_inside _ p = refl

of_pure_in : (m : ListKind) (s : Stmt) → is_pure_in m s ≡ true → lists_pure s ≡ true
of_pure_in Whole s p = of_pure s p
of_pure_in (Inside w) s p = of_inside s p

-- ---- so it is pure by itself

pub by_itself : {k : Context} (s : Stmt) → IsNormal (StmtTo k false) s → is_pure s ≡ true → is_pure_by_itself s ≡ true
by_itself s n p = both (emptied s n (of_pure s p)) p

pub inside_by_itself : {k : Context} (s : Stmt) → IsNormal (StmtTo k false) s → is_internally_pure s ≡ true → is_inside_by_itself s ≡ true
inside_by_itself s n p = both (emptied s n (of_inside s p)) p

pub unit_by_itself : {k : Context} {w : Bool} (m : ListKind) (s : Stmt) → IsNormal (StmtTo k w) s → is_pure_in m s ≡ true → is_surely_unit s ≡ true → is_pure_unit m s ≡ true
unit_by_itself m s n p u = both (both (unit_emptied s n (of_pure_in m s p) u) p) u
