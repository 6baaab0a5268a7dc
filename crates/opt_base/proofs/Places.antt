-- What may stand where, by tests.
use Rattle.std.proofs.Common.{◌≡◌, ◌<◌, ◌≤◌, map, Bool, true, false, not, cond, List, [], ◌∷◌, length, get_or, Option, Some, None, is_some, refl, sym, ap, ◌∙◌, arith}
use Rattle.base_tokens.specs.declared.ident.Ident.{Ident}
use Rattle.rhai_base.specs.Value.{Text}
use Rattle.theory_meaning.specs.Act.{Root, OfGlobal}
use Rattle.theory_meaning.specs.Desugar.{is_global, name_root, root_of}
use Rattle.theory_meaning.specs.Queries.{is_unit}
use Rattle.theory_meaning.specs.Tree.{Expr}
use Rattle.theory_rewriting.specs.Steps.{Place, Anywhere, AsBase, AsGuard, MayBecome}
use Rattle.opt_base.specs.Standing.{may_stand}

pub not-false : (b : Bool) → not b ≡ false → b ≡ true
not-false true h = refl
not-false false h = absurd cc

pub not-true : (b : Bool) → not b ≡ true → b ≡ false
not-true true h = absurd cc
not-true false h = refl

-- what may stand somewhere may be made there of what is neither a place nor a literal unit
no_place : (o : Option Root) → not (is_some o) ≡ true → o ≡ None
no_place None h = refl
no_place (Some x) h = absurd cc

pub stands : (p : Place) (e e' : Expr) → root_of e ≡ None → is_unit e ≡ false → may_stand p e' ≡ true → MayBecome p e e'
stands Anywhere e e' r u h = tt
stands AsBase e e' r u h = no_place (root_of e') h ∙ sym r
stands AsGuard e e' r u h = not-true (is_unit e') h ∙ sym u

-- ---- a name by its namespace

module _ (x : Text) where
  abbrev named : List Ident → Bool
  named is = is_some (name_root (map (λ i. i.name) is) x)

  pub own_root : (is : List Ident) → length is < 1 → true ≡ named is
  own_root [] h = refl
  own_root (i ∷ is) h = absurd (omega (arith, h))

  global_by : (b : Bool) → b ≡ is_some (cond b (Some (OfGlobal x)) None)
  global_by true = refl
  global_by false = refl

  pub global_root : (is : List Ident) (i : Ident) → 1 ≤ length is → length is < 2 → i ≡ get_or is 0 i → is_global i.name ≡ named is
  global_root [] i h k e = absurd (omega (arith, h))
  global_root (j ∷ []) i h k e = ap (λ (m : Ident). is_global m.name) e ∙ global_by (is_global j.name)
  global_root (j ∷ m ∷ is) i h k e = absurd (omega (arith, k))

  pub other_root : (is : List Ident) → 2 ≤ length is → false ≡ named is
  other_root [] h = absurd (omega (arith, h))
  other_root (i ∷ []) h = absurd (omega (arith, h))
  other_root (i ∷ j ∷ is) h = refl
