-- Lists made item by item.
use Rattle.std.proofs.Common.{◌≡◌, ℕ, ◌+◌, ◌<◌, ◌≤◌, List, [], ◌∷◌, ◌++◌, length, get_or, take, map, refl, sym, ap, ◌∙◌}
use Rattle.std.proofs.lemmas.List.{map-append, take_all, take_more}
use Rattle.base_tokens.specs.declared.ident.Ident.{Ident}
use Rattle.rhai_base.specs.declared.dynamic.Dynamic.{Dynamic}
use Rattle.rhai_base.specs.Reading.{value_of}
use Rattle.rhai_base.specs.Value.{Text, Value, item, values}
use Rattle.theory_meaning.specs.Tree as abstract
use Rattle.theory_naming.specs.Renaming.{renamed_value, renamed_values, renamed_expr, renamed_exprs, renamed_pairs, renamed_arms, renamed_stmt, renamed_stmts}
use Rattle.ast_types.specs.declared.expr.BinaryExpr.{BinaryExpr}
use Rattle.ast_types.specs.declared.expr.Expr.{Expr}
use Rattle.ast_types.specs.declared.stmt.Stmt.{Stmt}
use Rattle.ast_types.specs.Reading.{arms_of, expr_of, exprs_of, pairs_of, stmt_of, stmts_of}

-- one more item
pub one_more : {A B C : Type 0} (f : B → C) (g : A → C) (ys : List B) (y : B) (xs : List A) (i : ℕ) (d : A) → i < length xs
    → map f ys ≡ map g (take i xs) → f y ≡ g (get_or xs i d) → map f (ys ++ y ∷ []) ≡ map g (take (i + 1) xs)
one_more f g ys y xs i d h made one =
    map-append f ys (y ∷ []) ∙ (λ j. made j ++ one j ∷ []) ∙ sym (map-append g (take i xs) (get_or xs i d ∷ [])) ∙ ap (map g) (sym (take_more xs i d h))

all_made : {A B C : Type 0} (f : B → C) (g : A → C) (ys : List B) (xs : List A) (i : ℕ) → length xs ≤ i → map f ys ≡ map g (take i xs) → map f ys ≡ map g xs
all_made f g ys xs i h made = made ∙ ap (map g) (take_all i xs h)

abbrev pub named_item : Ident × Expr → Text × abstract.Expr
named_item p = (p.0.name, expr_of p.1)

abbrev pub sides_item : BinaryExpr → abstract.Expr × abstract.Expr
sides_item b = (expr_of b.lhs, expr_of b.rhs)

pairs_listed : (xs : List (Ident × Expr)) → abstract.pairs (map named_item xs) ≡ pairs_of xs
pairs_listed [] = refl
pairs_listed (x ∷ xs) = ap (abstract.pair x.0.name (expr_of x.1)) (pairs_listed xs)

arms_listed : (xs : List BinaryExpr) → abstract.arms (map sides_item xs) ≡ arms_of xs
arms_listed [] = refl
arms_listed (x ∷ xs) = ap (abstract.arm (expr_of x.lhs) (expr_of x.rhs)) (arms_listed xs)

module _ (named : Text → Text) where
  -- what a declared item becomes
  abbrev pub new_value : Dynamic → Value
  new_value v = renamed_value named (value_of v)

  abbrev pub new_item : Expr → abstract.Expr
  new_item e = renamed_expr named (expr_of e)

  abbrev pub new_line : Stmt → abstract.Stmt
  new_line s = renamed_stmt named (stmt_of s)

  abbrev pub new_named : Ident × Expr → Text × abstract.Expr
  new_named p = (p.0.name, renamed_expr named (expr_of p.1))

  abbrev pub new_sides : BinaryExpr → abstract.Expr × abstract.Expr
  new_sides b = (renamed_expr named (expr_of b.lhs), renamed_expr named (expr_of b.rhs))

  values_listed : (vs : List Dynamic) → values (map new_value vs) ≡ renamed_values named (values (map value_of vs))
  values_listed [] = refl
  values_listed (v ∷ vs) = ap (item (new_value v)) (values_listed vs)

  exprs_listed : (xs : List Expr) → abstract.exprs (map new_item xs) ≡ renamed_exprs named (exprs_of xs)
  exprs_listed [] = refl
  exprs_listed (x ∷ xs) = ap (abstract.expr (new_item x)) (exprs_listed xs)

  stmts_listed : (xs : List Stmt) → abstract.stmts (map new_line xs) ≡ renamed_stmts named (stmts_of xs)
  stmts_listed [] = refl
  stmts_listed (x ∷ xs) = ap (abstract.stmt (new_line x)) (stmts_listed xs)

  new_pairs_listed : (xs : List (Ident × Expr)) → abstract.pairs (map new_named xs) ≡ renamed_pairs named (pairs_of xs)
  new_pairs_listed [] = refl
  new_pairs_listed (x ∷ xs) = ap (abstract.pair x.0.name (new_item x.1)) (new_pairs_listed xs)

  new_arms_listed : (xs : List BinaryExpr) → abstract.arms (map new_sides xs) ≡ renamed_arms named (arms_of xs)
  new_arms_listed [] = refl
  new_arms_listed (x ∷ xs) = ap (abstract.arm (new_item x.lhs) (new_item x.rhs)) (new_arms_listed xs)

  -- all of them are made
  pub values_made : (ws vs : List Dynamic) (i : ℕ) → length vs ≤ i → map value_of ws ≡ map new_value (take i vs) → values (map value_of ws) ≡ renamed_values named (values (map value_of vs))
  values_made ws vs i h made = ap values (all_made value_of new_value ws vs i h made) ∙ values_listed vs

  pub exprs_made : (ys xs : List Expr) (i : ℕ) → length xs ≤ i → map expr_of ys ≡ map new_item (take i xs) → exprs_of ys ≡ renamed_exprs named (exprs_of xs)
  exprs_made ys xs i h made = ap abstract.exprs (all_made expr_of new_item ys xs i h made) ∙ exprs_listed xs

  pub stmts_made : (ys xs : List Stmt) (i : ℕ) → length xs ≤ i → map stmt_of ys ≡ map new_line (take i xs) → stmts_of ys ≡ renamed_stmts named (stmts_of xs)
  stmts_made ys xs i h made = ap abstract.stmts (all_made stmt_of new_line ys xs i h made) ∙ stmts_listed xs

  pub pairs_made : (ys xs : List (Ident × Expr)) (i : ℕ) → length xs ≤ i → map named_item ys ≡ map new_named (take i xs) → pairs_of ys ≡ renamed_pairs named (pairs_of xs)
  pairs_made ys xs i h made = sym (pairs_listed ys) ∙ ap abstract.pairs (all_made named_item new_named ys xs i h made) ∙ new_pairs_listed xs

  pub arms_made : (ys xs : List BinaryExpr) (i : ℕ) → length xs ≤ i → map sides_item ys ≡ map new_sides (take i xs) → arms_of ys ≡ renamed_arms named (arms_of xs)
  arms_made ys xs i h made = sym (arms_listed ys) ∙ ap abstract.arms (all_made sides_item new_sides ys xs i h made) ∙ new_arms_listed xs
