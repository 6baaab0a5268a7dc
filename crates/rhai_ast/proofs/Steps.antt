-- The first of the arms that are listed.
use Rattle.std.proofs.Common.{◌≡◌, ℕ, zero, suc, List, [], ◌∷◌, ◌++◌, map, Option, Some, None, MatchOption, slice_get, refl, sym, ap, ◌∙◌}
use Rattle.ast_types.specs.declared.expr.BinaryExpr.{BinaryExpr}
use Rattle.theory_meaning.specs.Walk.{arm_at, arm_of_default, arms_at}
use Rattle.ast_types.specs.declared.switch.SwitchCasesCollection.{SwitchCasesCollection}
use Rattle.ast_types.specs.Reading.{expressions_of, table_of}
use Rattle.rhai_ast.specs.Arms.{places_left}
use Rattle.rhai_ast.specs.declared.walker.arms.ListedArms.{ListedArms}
use Rattle.std.specs.Borrow.{Bor}
use Rattle.std.specs.Slice.{IsItemAt}
use Rattle.std.proofs.lemmas.List.{append-nil}
use Rattle.rhai_ast.proofs.Items.{item_past, item_there}

-- what is made of each arm
module _ {A : Type 0} (of : BinaryExpr → List A) where
  abbrev pub made_at : List BinaryExpr → List ℕ → List A
  made_at bs is = arms_at [] (λ cs ds. cs ++ ds) (map of bs) is

  arm_has : (bs : List BinaryExpr) (i : ℕ) (b : BinaryExpr) → slice_get bs i ≡ Some b → arm_at [] (map of bs) i ≡ of b
  arm_has [] i b e = absurd (let z : None ≡ Some b = e in cc)
  arm_has (c ∷ bs) zero b e = ap of (let z : Some c ≡ Some b = e in cc)
  arm_has (c ∷ bs) (suc i) b e = arm_has bs i b e

  arm_lacks : (bs : List BinaryExpr) (i : ℕ) → slice_get bs i ≡ None → arm_at [] (map of bs) i ≡ []
  arm_lacks [] i e = refl
  arm_lacks (c ∷ bs) zero e = absurd (let z : Some c ≡ None = e in cc)
  arm_lacks (c ∷ bs) (suc i) e = arm_lacks bs i e

  -- an arm that the table has, and a place past it, as what is left falls from one to the other
  pub made-some : (l m : ListedArms) (bs : List BinaryExpr) (i : ℕ) (b : Bor BinaryExpr) → m.table ≡ l.table → places_left l ≡ i ∷ places_left m → bs ≡ expressions_of m.table.now → IsItemAt bs i (Some b) → made_at (expressions_of l.table.now) (places_left l) ≡ of b.now ++ made_at (expressions_of m.table.now) (places_left m)
  made-some l m bs i b same falls e h =
      ap (made_at (expressions_of l.table.now)) falls ∙ ap (λ (t : Bor SwitchCasesCollection). made_at (expressions_of t.now) (i ∷ places_left m)) (sym same)
      ∙ ap (λ (cs : List A). cs ++ made_at (expressions_of m.table.now) (places_left m)) (arm_has (expressions_of m.table.now) i b.now (item_there (expressions_of m.table.now) bs i b e h))

  pub made-none : (l m : ListedArms) (bs : List BinaryExpr) (i : ℕ) (r : Option (Bor BinaryExpr)) → m.table ≡ l.table → places_left l ≡ i ∷ places_left m → bs ≡ expressions_of m.table.now → IsItemAt bs i r → ((b : Bor BinaryExpr) → r ≡ Some b → ⊥) → made_at (expressions_of l.table.now) (places_left l) ≡ made_at (expressions_of m.table.now) (places_left m)
  made-none l m bs i (Some b) same falls e h other = absurd (other b refl)
  made-none l m bs i None same falls e h other =
      ap (made_at (expressions_of l.table.now)) falls ∙ ap (λ (t : Bor SwitchCasesCollection). made_at (expressions_of t.now) (i ∷ places_left m)) (sym same)
      ∙ ap (λ (cs : List A). cs ++ made_at (expressions_of m.table.now) (places_left m)) (arm_lacks (expressions_of m.table.now) i (item_past (expressions_of m.table.now) bs i e h))

  pub made-default : (t : SwitchCasesCollection) (bs : List BinaryExpr) (i : ℕ) (r : Option (Bor BinaryExpr)) → (table_of t).default ≡ Some i → bs ≡ expressions_of t → IsItemAt bs i r → MatchOption r (made_at (expressions_of t) (arm_of_default (table_of t).default) ≡ []) (λ b. made_at (expressions_of t) (arm_of_default (table_of t).default) ≡ of b.now)
  made-default t bs i (Some b) given e h =
      ap (λ d. made_at (expressions_of t) (arm_of_default d)) given
      ∙ ap (λ (cs : List A). cs ++ []) (arm_has (expressions_of t) i b.now (item_there (expressions_of t) bs i b e h)) ∙ append-nil (of b.now)
  made-default t bs i None given e h =
      ap (λ d. made_at (expressions_of t) (arm_of_default d)) given
      ∙ ap (λ (cs : List A). cs ++ []) (arm_lacks (expressions_of t) i (item_past (expressions_of t) bs i e h))
