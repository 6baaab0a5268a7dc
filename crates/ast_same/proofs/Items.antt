-- Lists item by item, for loops that go over two of them.
use Rattle.std.proofs.Common.{◌≡◌, ℕ, suc, ◌+◌, ◌<◌, ◌≤◌, ◌==◌, Bool, false, List, [], ◌∷◌, Option, length, get_or, drop, map, refl, sym, ap, ◌∙◌, add-one, arith}
use Rattle.std.proofs.Math.Seq.{drop-cons, drop-length}
use Rattle.std.proofs.lemmas.List.{at_drop_all}
use Rattle.std.specs.declared.num.NonZeroUsize.{NonZeroUsize}
use Rattle.base_tokens.specs.declared.ident.Ident.{Ident}
use Rattle.rhai_base.specs.Value.{Text}
use Rattle.ast_types.specs.declared.expr.BinaryExpr.{BinaryExpr}
use Rattle.ast_types.specs.declared.expr.Expr.{Expr}
use Rattle.ast_types.specs.declared.stmt.Stmt.{Stmt}
use Rattle.rhai_base.specs.declared.range_case.RangeCase.{RangeCase}
use Rattle.ast_types.specs.Reading.{arms_of, exprs_of, pairs_of, range_of, shared_names, stmts_of}
use Rattle.ast_same.specs.Alike.{alike_arms, alike_exprs, alike_pairs, alike_ranges, alike_stmts}

abbrev pub path_names : List Ident → List Text
path_names ms = map (λ m. m.name) ms

pub names-drop : (xs : List Text) (i : ℕ) (d : Text) → i < length xs → drop i xs ≡ get_or xs i d ∷ drop (i + 1) xs
names-drop xs i d h = rw (add-one, drop-cons xs i d) refl

pub path-drop : (ms : List Ident) (i : ℕ) (d : Ident) → i < length ms → path_names (drop i ms) ≡ (get_or ms i d).name ∷ path_names (drop (i + 1) ms)
path-drop ms i d h = rw (add-one, drop-cons ms i d) refl

pub path-end : (ms : List Ident) → path_names (drop (length ms) ms) ≡ []
path-end ms = ap path_names (drop-length ms)

pub shared-drop : (xs : List (Ident × Option NonZeroUsize)) (i : ℕ) (d : Ident × Option NonZeroUsize) → i < length xs → shared_names (drop i xs) ≡ (get_or xs i d).0.name ∷ shared_names (drop (i + 1) xs)
shared-drop xs i d h = rw (add-one, drop-cons xs i d) refl

pub shared-end : (xs : List (Ident × Option NonZeroUsize)) → shared_names (drop (length xs) xs) ≡ []
shared-end xs = ap shared_names (drop-length xs)

pub ranges-drop : (rs : List RangeCase) (i : ℕ) (d : RangeCase) → i < length rs → map range_of (drop i rs) ≡ range_of (get_or rs i d) ∷ map range_of (drop (i + 1) rs)
ranges-drop rs i d h = rw (add-one, drop-cons rs i d) refl

pub ranges-end : (rs : List RangeCase) → map range_of (drop (length rs) rs) ≡ []
ranges-end rs = ap (λ (xs : List RangeCase). map range_of xs) (drop-length rs)

-- ---- at the end of a list only no item is like what is left

not_none : (n : ℕ) → (suc n == 0) ≡ false
not_none n = grind arith

exprs_none : (ys : List Expr) → (length ys == 0) ≡ alike_exprs (exprs_of []) (exprs_of ys)
exprs_none [] = refl
exprs_none (y ∷ ys) = not_none (length ys)

pub exprs_ended : (xs ys : List Expr) (i : ℕ) (r b : Bool) → length xs ≤ i → alike_exprs (exprs_of (drop i xs)) (exprs_of ys) ≡ b → r ≡ (length ys == 0) → r ≡ b
exprs_ended xs ys i r b h left e = e ∙ exprs_none ys ∙ sym (at_drop_all (λ (zs : List Expr). alike_exprs (exprs_of zs) (exprs_of ys)) xs i h) ∙ left

stmts_none : (ys : List Stmt) → (length ys == 0) ≡ alike_stmts (stmts_of []) (stmts_of ys)
stmts_none [] = refl
stmts_none (y ∷ ys) = not_none (length ys)

pub stmts_ended : (xs ys : List Stmt) (i : ℕ) (r b : Bool) → length xs ≤ i → alike_stmts (stmts_of (drop i xs)) (stmts_of ys) ≡ b → r ≡ (length ys == 0) → r ≡ b
stmts_ended xs ys i r b h left e = e ∙ stmts_none ys ∙ sym (at_drop_all (λ (zs : List Stmt). alike_stmts (stmts_of zs) (stmts_of ys)) xs i h) ∙ left

pairs_none : (ys : List (Ident × Expr)) → (length ys == 0) ≡ alike_pairs (pairs_of []) (pairs_of ys)
pairs_none [] = refl
pairs_none (y ∷ ys) = not_none (length ys)

pub pairs_ended : (xs ys : List (Ident × Expr)) (i : ℕ) (r b : Bool) → length xs ≤ i → alike_pairs (pairs_of (drop i xs)) (pairs_of ys) ≡ b → r ≡ (length ys == 0) → r ≡ b
pairs_ended xs ys i r b h left e = e ∙ pairs_none ys ∙ sym (at_drop_all (λ (zs : List (Ident × Expr)). alike_pairs (pairs_of zs) (pairs_of ys)) xs i h) ∙ left

arms_none : (ys : List BinaryExpr) → (length ys == 0) ≡ alike_arms (arms_of []) (arms_of ys)
arms_none [] = refl
arms_none (y ∷ ys) = not_none (length ys)

pub arms_ended : (xs ys : List BinaryExpr) (i : ℕ) (r b : Bool) → length xs ≤ i → alike_arms (arms_of (drop i xs)) (arms_of ys) ≡ b → r ≡ (length ys == 0) → r ≡ b
arms_ended xs ys i r b h left e = e ∙ arms_none ys ∙ sym (at_drop_all (λ (zs : List BinaryExpr). alike_arms (arms_of zs) (arms_of ys)) xs i h) ∙ left

-- a list of ranges that ends first
none_left : (xs : List RangeCase) (i : ℕ) → i < length xs → false ≡ alike_ranges (map range_of (drop i xs)) []
none_left [] i h = absurd (omega arith)
none_left (x ∷ xs) i h = ap (λ rs. alike_ranges rs []) (sym (ranges-drop (x ∷ xs) i x h))

pub ranges_short : (xs ys : List RangeCase) (i : ℕ) (b : Bool) → i < length xs → alike_ranges (map range_of (drop i xs)) (map range_of ys) ≡ b → length ys ≡ 0 → false ≡ b
ranges_short xs [] i b h left e = none_left xs i h ∙ left
ranges_short xs (y ∷ ys) i b h left e = absurd (let none : suc (length ys) ≡ 0 = e in omega arith)

pub ruleset names = (names-drop, path-drop, path-end, shared-drop, shared-end)

pub ruleset tables = (ranges-drop, ranges-end)
