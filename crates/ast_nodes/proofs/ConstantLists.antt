-- Members of a map of constants, one by one.
use Rattle.std.proofs.Common.{◌≡◌, ℕ, suc, ◌+◌, ◌<◌, Bool, ◌&&◌, List, ◌∷◌, is_some, length, get_or, drop, add-one}
use Rattle.std.proofs.Math.Seq.{drop-cons}
use Rattle.base_tokens.specs.declared.ident.Ident.{Ident}
use Rattle.ast_types.specs.declared.expr.Expr.{Expr}
use Rattle.theory_meaning.specs.Constants.{constant_entries, constant_value, is_constant}
use Rattle.ast_types.specs.Reading.{expr_of, pairs_of}
use Rattle.ast_types.proofs.ItemLists.{is_some-entry_and}

abbrev pub members_constant : List (Ident × Expr) → Bool
members_constant ps = is_some (constant_entries (pairs_of ps))

members_step : (p : Ident × Expr) (ps : List (Ident × Expr)) → members_constant (p ∷ ps) ≡ (is_constant (expr_of p.1) && members_constant ps)
members_step p ps = is_some-entry_and p.0.name (constant_value (expr_of p.1)) (constant_entries (pairs_of ps))

pub members-drop : (ps : List (Ident × Expr)) (i : ℕ) (d : Ident × Expr) → i < length ps → members_constant (drop i ps) ≡ (is_constant (expr_of (get_or ps i d).1) && members_constant (drop (i + 1) ps))
members-drop ps i d h = rw (add-one, drop-cons ps i d) (members_step (get_or ps i d) (drop (suc i) ps))
