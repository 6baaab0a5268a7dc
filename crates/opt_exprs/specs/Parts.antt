-- The parts of an interpolated text: what goes of them, and what is joined.
use Rattle.std.specs.Prelude.{◌≡◌, ◌<◌, ◌≤◌, ◌+◌, ℕ, Bool, true, false, ◌&&◌, ◌||◌, List, [], ◌∷◌, None, length, get_or, set, drop}
use Rattle.ast_types.specs.declared.expr.Expr as declared_expr
use Rattle.rhai_base.specs.Value.{Text, Value, UnitV, TextV}
use Rattle.theory_meaning.specs.Constants.{constant_value}
use Rattle.theory_meaning.specs.Engine.{Engine}
use Rattle.theory_meaning.specs.Tree.{Expr, DynamicConstant, StringConstant, UnitConstant, InterpolatedString, MapOf, Exprs, no_exprs, expr}
use Rattle.ast_types.specs.Reading.{expr_of, exprs_of}
use Rattle.theory_rewriting.specs.Operands.{TextTo}
use Rattle.theory_rewriting.specs.Residue.{ExprParts}
use Rattle.theory_rewriting.specs.Steps.{Progress, Place}
use Rattle.opt_base.specs.NodeSteps.{ExprStep}
use Rattle.opt_base.specs.Passes.{InTurn, NodePass}

abbrev pub Declared : Type 0
Declared = List declared_expr.Expr

-- ---- nodes

abbrev pub is_interpolated : Expr → Bool
is_interpolated (InterpolatedString es) = true
is_interpolated _ = false

abbrev pub is_map : Expr → Bool
is_map (MapOf ps template) = true
is_map _ = false

-- ---- a part

abbrev pub is_text : Expr → Bool
is_text (StringConstant t) = true
is_text _ = false

abbrev pub written : Expr → Text
written (StringConstant t) = t
written _ = []

abbrev pub is_empty_text : Text → Bool
is_empty_text [] = true
is_empty_text (c ∷ cs) = false

-- unit, or an empty text
abbrev pub is_empty_value : Value → Bool
is_empty_value UnitV = true
is_empty_value (TextV t) = is_empty_text t
is_empty_value _ = false

abbrev pub is_empty_part : Expr → Bool
is_empty_part UnitConstant = true
is_empty_part (StringConstant t) = is_empty_text t
is_empty_part (DynamicConstant v) = is_empty_value v
is_empty_part _ = false

-- ---- parts

abbrev pub AreTexts : Declared → ℕ → ℕ → Type 0
AreTexts xs at end = (i : ℕ) (d : declared_expr.Expr) → at ≤ i → i < end → is_text (expr_of (get_or xs i d)) ≡ true

-- those from one place up to another are this part
abbrev pub Joins : Declared → ℕ → ℕ → Expr → Type 0
Joins xs at end e = InTurn TextTo (exprs_of (drop at xs)) (expr e (exprs_of (drop end xs)))

-- a text was put at a place
pub record PutText (at : ℕ) (t : Text) (xs ys : Declared) : Type 0 where
  pub part : declared_expr.Expr
  pub put : ys ≡ set xs at part
  pub reads : expr_of part ≡ StringConstant t

-- whether the first part goes, and whether the first two are joined
abbrev pub first_goes : Exprs → Bool
first_goes no_exprs = false
first_goes (expr e es) = is_empty_part e

abbrev pub first_joins : Exprs → Bool
first_joins (expr e (expr f es)) = is_text e && is_text f
first_joins _ = false

-- it stands at the place of the first; one alone is none of which p holds
pub record JoinedAt (p : Exprs → Bool) (at end : ℕ) (xs ys : Declared) : Type 0 where
  pub part : declared_expr.Expr
  pub above : at < end
  pub inside : end ≤ length xs
  pub put : ys ≡ set xs at part
  pub joins : Joins xs at end (expr_of part)
  pub same : end ≡ at + 1 → ys ≡ xs
  pub settled : end ≡ at + 1 → p (exprs_of (drop at xs)) ≡ false

-- p holds at no place before this one
abbrev pub Nowhere : (Exprs → Bool) → Declared → ℕ → Type 0
Nowhere p xs n = (i : ℕ) → i < n → p (exprs_of (drop i xs)) ≡ false

-- some parts went, or none, as p holds nowhere
pub record PartsChange (p : Exprs → Bool) (xs ys : Declared) : Type 0 where
  pub to : InTurn TextTo (exprs_of xs) (exprs_of ys)
  pub short : length ys ≤ length xs
  pub same : length ys ≡ length xs → ys ≡ xs
  pub settled : length ys ≡ length xs → Nowhere p xs (length xs)

-- a part goes, or is joined with the next
abbrev pub any_changes : Exprs → Bool
any_changes no_exprs = false
any_changes (expr e es) = first_goes (expr e es) || (first_joins (expr e es) || any_changes es)

abbrev pub parts_change : Expr → Bool
parts_change (InterpolatedString es) = any_changes es
parts_change _ = false

-- of a node: whether any went; if none did, none can
abbrev pub NodeChange : Bool → Expr → Expr → Type 0
NodeChange true e e' = NodePass e e'
NodeChange false e e' = (e' ≡ e) × (parts_change e ≡ false)

-- ---- literals

-- whether a constant was put for its value, wherever it stands; if not, it is none, its parts being reduced, and nothing changed
abbrev pub Folds : Bool → Progress → Progress → Expr → Expr → Type 0
Folds true s s' e e' = (r : Engine) (p : Place) → ExprStep true r p s s' e e'
Folds false s s' e e' = ((r : Engine) → ExprParts r e → constant_value e ≡ None) × (s' ≡ s) × (e' ≡ e)
