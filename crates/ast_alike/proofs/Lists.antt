-- Lists made item by item.
use Rattle.std.proofs.Common.{◌≡◌, ℕ, ◌+◌, ◌<◌, ◌≤◌, List, [], ◌∷◌, ◌++◌, length, get_or, take, map, refl, sym, ap, ◌∙◌}
use Rattle.std.proofs.lemmas.List.{map-append, take_all, take_more}
use Rattle.base_tokens.specs.declared.ident.Ident.{Ident}
use Rattle.rhai_base.specs.declared.dynamic.Dynamic.{Dynamic}
use Rattle.rhai_base.specs.Reading.{value_of}
use Rattle.rhai_base.specs.Value.{Text, values}
use Rattle.theory_spelling.specs.Bare.{bare_arms, bare_expr, bare_exprs, bare_pairs, bare_stmt, bare_stmts, literal_of, literals_of}
use Rattle.theory_spelling.specs.Captures.{all_grouped, grouped}
use Rattle.theory_meaning.specs.Tree as abstract
use Rattle.ast_types.specs.declared.expr.BinaryExpr.{BinaryExpr}
use Rattle.ast_types.specs.declared.expr.Expr.{Expr}
use Rattle.ast_types.specs.declared.stmt.Stmt.{Stmt}
use Rattle.ast_types.specs.Reading.{arms_of, expr_of, exprs_of, pairs_of, stmt_of, stmts_of}

-- ---- one more item

pub one_more : {A B C : Type 0} (f : B → C) (g : A → C) (ys : List B) (y : B) (xs : List A) (i : ℕ) (d : A) → i < length xs
    → map f ys ≡ map g (take i xs) → f y ≡ g (get_or xs i d) → map f (ys ++ y ∷ []) ≡ map g (take (i + 1) xs)
one_more f g ys y xs i d h made one =
    map-append f ys (y ∷ []) ∙ (λ j. made j ++ one j ∷ []) ∙ sym (map-append g (take i xs) (get_or xs i d ∷ [])) ∙ ap (map g) (sym (take_more xs i d h))

-- ---- all of them

all_made : {A B C : Type 0} (f : B → C) (g : A → C) (ys : List B) (xs : List A) (i : ℕ) → length xs ≤ i → map f ys ≡ map g (take i xs) → map f ys ≡ map g xs
all_made f g ys xs i h made = made ∙ ap (map g) (take_all i xs h)

-- what a declared item becomes
abbrev pub bare_item : Expr → abstract.Expr
bare_item e = bare_expr (expr_of e)

abbrev pub bare_line : Stmt → abstract.Stmt
bare_line s = bare_stmt (stmt_of s)

abbrev pub literal_item : Dynamic → abstract.Expr
literal_item v = literal_of (value_of v)

abbrev pub named_item : Ident × Expr → Text × abstract.Expr
named_item p = (p.0.name, expr_of p.1)

abbrev pub bare_named : Ident × Expr → Text × abstract.Expr
bare_named p = (p.0.name, bare_expr (expr_of p.1))

abbrev pub sides_item : BinaryExpr → abstract.Expr × abstract.Expr
sides_item b = (expr_of b.lhs, expr_of b.rhs)

abbrev pub bare_sides : BinaryExpr → abstract.Expr × abstract.Expr
bare_sides b = (bare_expr (expr_of b.lhs), bare_expr (expr_of b.rhs))

bare_exprs_listed : (xs : List Expr) → abstract.exprs (map bare_item xs) ≡ bare_exprs (exprs_of xs)
bare_exprs_listed [] = refl
bare_exprs_listed (x ∷ xs) = ap (abstract.expr (bare_item x)) (bare_exprs_listed xs)

bare_stmts_listed : (xs : List Stmt) → all_grouped (abstract.stmts (map bare_line xs)) ≡ bare_stmts (stmts_of xs)
bare_stmts_listed [] = refl
bare_stmts_listed (x ∷ xs) = ap (grouped (bare_line x)) (bare_stmts_listed xs)

literals_listed : (vs : List Dynamic) → abstract.exprs (map literal_item vs) ≡ literals_of (values (map value_of vs))
literals_listed [] = refl
literals_listed (v ∷ vs) = ap (abstract.expr (literal_item v)) (literals_listed vs)

pub pairs_listed : (xs : List (Ident × Expr)) → abstract.pairs (map named_item xs) ≡ pairs_of xs
pairs_listed [] = refl
pairs_listed (x ∷ xs) = ap (abstract.pair x.0.name (expr_of x.1)) (pairs_listed xs)

bare_pairs_listed : (xs : List (Ident × Expr)) → abstract.pairs (map bare_named xs) ≡ bare_pairs (pairs_of xs)
bare_pairs_listed [] = refl
bare_pairs_listed (x ∷ xs) = ap (abstract.pair x.0.name (bare_item x.1)) (bare_pairs_listed xs)

arms_listed : (xs : List BinaryExpr) → abstract.arms (map sides_item xs) ≡ arms_of xs
arms_listed [] = refl
arms_listed (x ∷ xs) = ap (abstract.arm (expr_of x.lhs) (expr_of x.rhs)) (arms_listed xs)

bare_arms_listed : (xs : List BinaryExpr) → abstract.arms (map bare_sides xs) ≡ bare_arms (arms_of xs)
bare_arms_listed [] = refl
bare_arms_listed (x ∷ xs) = ap (abstract.arm (bare_item x.lhs) (bare_item x.rhs)) (bare_arms_listed xs)

pub exprs_made : (ys xs : List Expr) (i : ℕ) → length xs ≤ i → map expr_of ys ≡ map bare_item (take i xs) → exprs_of ys ≡ bare_exprs (exprs_of xs)
exprs_made ys xs i h made = ap abstract.exprs (all_made expr_of bare_item ys xs i h made) ∙ bare_exprs_listed xs

pub stmts_made : (ys xs : List Stmt) (i : ℕ) → length xs ≤ i → map stmt_of ys ≡ map bare_line (take i xs) → all_grouped (stmts_of ys) ≡ bare_stmts (stmts_of xs)
stmts_made ys xs i h made = ap (λ l. all_grouped (abstract.stmts l)) (all_made stmt_of bare_line ys xs i h made) ∙ bare_stmts_listed xs

pub literals_made : (ys : List Expr) (vs : List Dynamic) (i : ℕ) → length vs ≤ i → map expr_of ys ≡ map literal_item (take i vs) → exprs_of ys ≡ literals_of (values (map value_of vs))
literals_made ys vs i h made = ap abstract.exprs (all_made expr_of literal_item ys vs i h made) ∙ literals_listed vs

pub pairs_made : (ys xs : List (Ident × Expr)) (i : ℕ) → length xs ≤ i → map named_item ys ≡ map bare_named (take i xs) → pairs_of ys ≡ bare_pairs (pairs_of xs)
pairs_made ys xs i h made = sym (pairs_listed ys) ∙ ap abstract.pairs (all_made named_item bare_named ys xs i h made) ∙ bare_pairs_listed xs

pub arms_made : (ys xs : List BinaryExpr) (i : ℕ) → length xs ≤ i → map sides_item ys ≡ map bare_sides (take i xs) → arms_of ys ≡ bare_arms (arms_of xs)
arms_made ys xs i h made = sym (arms_listed ys) ∙ ap abstract.arms (all_made sides_item bare_sides ys xs i h made) ∙ bare_arms_listed xs
