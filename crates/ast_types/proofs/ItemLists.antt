-- Lists of trees, item by item, for a loop that goes over one.
use Rattle.std.proofs.Common.{◌≡◌, ℕ, ◌+◌, ◌<◌, Bool, true, false, ◌&&◌, List, Option, Some, None, is_some, length, get_or, drop, refl, add-one, ap}
use Rattle.std.proofs.Math.Seq.{drop-cons, drop-length}
use Rattle.base_tokens.specs.declared.ident.Ident.{Ident}
use Rattle.rhai_base.specs.Value.{Text, Value}
use Rattle.ast_types.specs.declared.expr.Expr.{Expr}
use Rattle.ast_types.specs.declared.expr.BinaryExpr.{BinaryExpr}
use Rattle.ast_types.specs.declared.stmt.Stmt.{Stmt}
use Rattle.theory_meaning.specs.Constants.{array_value, entry_and, joined_value, map_value, value_and, where_floatless}
use Rattle.theory_meaning.specs.Tree.{arm, expr, no_arms, no_exprs, no_pairs, no_stmts, pair, stmt}
use Rattle.ast_types.specs.Reading.{arms_of, expr_of, exprs_of, pairs_of, stmt_of, stmts_of}

pub exprs_of-drop : (xs : List Expr) (i : ℕ) (d : Expr) → i < length xs → exprs_of (drop i xs) ≡ expr (expr_of (get_or xs i d)) (exprs_of (drop (i + 1) xs))
exprs_of-drop xs i d h = rw (add-one, drop-cons xs i d) refl

pub exprs_of-end : (xs : List Expr) → exprs_of (drop (length xs) xs) ≡ no_exprs
exprs_of-end xs = ap exprs_of (drop-length xs)

pub stmts_of-drop : (xs : List Stmt) (i : ℕ) (d : Stmt) → i < length xs → stmts_of (drop i xs) ≡ stmt (stmt_of (get_or xs i d)) (stmts_of (drop (i + 1) xs))
stmts_of-drop xs i d h = rw (add-one, drop-cons xs i d) refl

pub stmts_of-end : (xs : List Stmt) → stmts_of (drop (length xs) xs) ≡ no_stmts
stmts_of-end xs = ap stmts_of (drop-length xs)

pub pairs_of-drop : (xs : List (Ident × Expr)) (i : ℕ) (d : Ident × Expr) → i < length xs → pairs_of (drop i xs) ≡ pair (get_or xs i d).0.name (expr_of (get_or xs i d).1) (pairs_of (drop (i + 1) xs))
pairs_of-drop xs i d h = rw (add-one, drop-cons xs i d) refl

pub pairs_of-end : (xs : List (Ident × Expr)) → pairs_of (drop (length xs) xs) ≡ no_pairs
pairs_of-end xs = ap pairs_of (drop-length xs)

pub arms_of-drop : (xs : List BinaryExpr) (i : ℕ) (d : BinaryExpr) → i < length xs → arms_of (drop i xs) ≡ arm (expr_of (get_or xs i d).lhs) (expr_of (get_or xs i d).rhs) (arms_of (drop (i + 1) xs))
arms_of-drop xs i d h = rw (add-one, drop-cons xs i d) refl

pub arms_of-end : (xs : List BinaryExpr) → arms_of (drop (length xs) xs) ≡ no_arms
arms_of-end xs = ap arms_of (drop-length xs)

-- a list of constants, and an array or a map of them
pub is_some-value_and : (v : Option Value) (vs : Option (List Value)) → is_some (value_and v vs) ≡ (is_some v && is_some vs)
is_some-value_and None None = refl
is_some-value_and None (Some vs) = refl
is_some-value_and (Some v) None = refl
is_some-value_and (Some v) (Some vs) = refl

pub is_some-entry_and : (k : Text) (v : Option Value) (vs : Option (List (Text × Value))) → is_some (entry_and k v vs) ≡ (is_some v && is_some vs)
is_some-entry_and k None None = refl
is_some-entry_and k None (Some vs) = refl
is_some-entry_and k (Some v) None = refl
is_some-entry_and k (Some v) (Some vs) = refl

pub is_some-array_value : (vs : Option (List Value)) → is_some (array_value vs) ≡ is_some vs
is_some-array_value None = refl
is_some-array_value (Some vs) = refl

pub is_some-joined_value : (vs : Option (List Value)) → is_some (joined_value vs) ≡ is_some vs
is_some-joined_value None = refl
is_some-joined_value (Some vs) = refl

pub is_some-where_floatless : (b : Bool) (vs : Option (List Value)) → is_some (where_floatless b vs) ≡ (b && is_some vs)
is_some-where_floatless true vs = refl
is_some-where_floatless false vs = refl

pub is_some-map_value : (vs : Option (List (Text × Value))) → is_some (map_value vs) ≡ is_some vs
is_some-map_value None = refl
is_some-map_value (Some vs) = refl

pub ruleset steps = (
  exprs_of-drop,
  exprs_of-end,
  stmts_of-drop,
  stmts_of-end,
  pairs_of-drop,
  pairs_of-end,
  arms_of-drop,
  arms_of-end,
  is_some-value_and,
  is_some-entry_and,
  is_some-array_value,
  is_some-joined_value,
  is_some-where_floatless,
  is_some-map_value,
)
