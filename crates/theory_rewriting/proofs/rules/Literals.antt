-- A part of a literal whose parts are pure: the other parts go, and what comes after has its value.
use Rattle.std.proofs.Common.{◌≡◌, ℕ, ◌≤◌, ◌+◌, zero, suc, Bool, true, false, cond, Option, Some, None, refl, ap, subst, arith}
use Rattle.rhai_base.specs.Value.{Text, UnitV, same_text}
use Rattle.theory_meaning.specs.Desugar.{root_of}
use Rattle.theory_meaning.specs.Engine.{or_else}
use Rattle.theory_meaning.specs.Queries.{is_pure_expr, are_pure_exprs, are_pure_pairs}
use Rattle.theory_meaning.specs.Tree.{Expr, Variable, ThisPtr, Exprs, no_exprs, expr, Pairs, no_pairs, pair}
use Rattle.theory_meaning.specs.Walk.{Node, Around, whole, throughout, over_expr, over_exprs, over_pairs}
use Rattle.theory_meaning.specs.Walk as walk
use Rattle.theory_meaning.specs.Weight.{own_weight, expr_weight, exprs_weight}
use Rattle.theory_meaning.proofs.PureTrees.{split}
use Rattle.theory_rewriting.specs.Indexing.{expr_at, pair_for, or_unit}
use Rattle.theory_rewriting.proofs.rules.Lasting.{Lasting}

pub some_is : (d e : Expr) → Some d ≡ Some e → d ≡ e
some_is d e h = ap (or_this d) h where
  or_this : Expr → Option Expr → Expr
  or_this x None = x
  or_this x (Some y) = y

-- ---- what a part is

-- a pure expression is no place
pure_root : (e : Expr) → is_pure_expr e ≡ true → root_of e ≡ None
pure_root (Variable ns x) h = absurd (let z : false ≡ true = h in cc)
pure_root ThisPtr h = absurd (let z : false ≡ true = h in cc)
pure_root _ h = refl

pub element_root : (es : Exprs) (i : ℕ) (e : Expr) → are_pure_exprs es ≡ true → expr_at es i ≡ Some e → root_of e ≡ None
element_root no_exprs i e h q = absurd (let z : None ≡ Some e = q in cc)
element_root (expr d es) zero e h q = subst (λ x. root_of x ≡ None) (some_is d e q) (pure_root d (split (is_pure_expr d) (are_pure_exprs es) h).0)
element_root (expr d es) (suc i) e h q = element_root es i e (split (is_pure_expr d) (are_pure_exprs es) h).1 q

pub entry_root : (ps : Pairs) (x : Text) → are_pure_pairs ps ≡ true → root_of (or_unit (pair_for ps x)) ≡ None
entry_root no_pairs x h = refl
entry_root (pair m e ps) x h = let z = split (is_pure_expr e) (are_pure_pairs ps) h in by (pair_for ps x) (same_text m x) (pure_root e z.0) (entry_root ps x z.1) where
  by : (o : Option Expr) (b : Bool) → root_of e ≡ None → root_of (or_unit o) ≡ None → root_of (or_unit (or_else o (cond b (Some e) None))) ≡ None
  by (Some y) b p q = q
  by None true p q = p
  by None false p q = refl

-- ---- it weighs less, and stood there

pub element_light : (es : Exprs) (i : ℕ) (e : Expr) → expr_at es i ≡ Some e → expr_weight e ≤ exprs_weight es
element_light no_exprs i e h = absurd (let z : None ≡ Some e = h in cc)
element_light (expr d es) zero e h = subst (λ x. expr_weight x ≤ exprs_weight (expr d es)) (some_is d e h) (omega arith)
element_light (expr d es) (suc i) e h = omega (arith, element_light es i e h)

pub entry_light : (ps : Pairs) (x : Text) → expr_weight (or_unit (pair_for ps x)) ≤ 1 + over_pairs (walk.total own_weight) ps
entry_light no_pairs x = omega arith
entry_light (pair m e ps) x = by (pair_for ps x) (same_text m x) (entry_light ps x) where
  by : (o : Option Expr) (b : Bool) → expr_weight (or_unit o) ≤ 1 + over_pairs (walk.total own_weight) ps → expr_weight (or_unit (or_else o (cond b (Some e) None))) ≤ 1 + over_pairs (walk.total own_weight) (pair m e ps)
  by (Some y) b h = omega (arith, h)
  by None true h = omega arith
  by None false h = omega (arith, h)

module _ (P : Around → Node → Type 0) (l : Bool) (lasts : Lasting P l) where
  pub element_keeps : (es : Exprs) (i : ℕ) (e : Expr) → expr_at es i ≡ Some e → over_exprs (throughout P) es (whole l) → over_expr (throughout P) e (whole l)
  element_keeps no_exprs i e h p = absurd (let z : None ≡ Some e = h in cc)
  element_keeps (expr d es) zero e h p = subst (λ x. over_expr (throughout P) x (whole l)) (some_is d e h) p.0
  element_keeps (expr d es) (suc i) e h p = element_keeps es i e h p.1

  pub entry_keeps : (ps : Pairs) (x : Text) → over_pairs (throughout P) ps (whole l) → over_expr (throughout P) (or_unit (pair_for ps x)) (whole l)
  entry_keeps no_pairs x p = (lasts.value UnitV, tt)
  entry_keeps (pair m e ps) x p = by (pair_for ps x) (same_text m x) (entry_keeps ps x p.1) where
    by : (o : Option Expr) (b : Bool) → over_expr (throughout P) (or_unit o) (whole l) → over_expr (throughout P) (or_unit (or_else o (cond b (Some e) None))) (whole l)
    by (Some y) b h = h
    by None true h = p.0
    by None false h = h
