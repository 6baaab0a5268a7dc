-- A `switch` that is not decided is not reducible.
use Rattle.std.proofs.Common.{◌≡◌, ℕ, Bool, true, false, cond, List, [], ◌∷◌, Option, Some, None, refl, sym, ap, ◌∙◌}
use Rattle.std.specs.Prelude.{◌&&◌}
use Rattle.std.proofs.lemmas.Bool.Decides.{Decides-eqb}
use Rattle.rhai_base.specs.Value.{Value, is_hashable}
use Rattle.theory_meaning.specs.Constants.{constant_value}
use Rattle.theory_meaning.specs.Control.{case_for, ranges_with, or_ranges}
use Rattle.theory_meaning.specs.Engine.{Engine}
use Rattle.theory_meaning.specs.Shape.{is_table}
use Rattle.theory_meaning.specs.Tree.{SwitchTable, Expr, DynamicConstant, BoolConstant, IntegerConstant, FloatConstant, CharConstant, StringConstant, UnitConstant, Arms, Stmt, Switch}
use Rattle.theory_meaning.specs.Walk.{OfStmt}
use Rattle.theory_rewriting.specs.Choosing.{is_short, own_value, is_short_for, is_short_over, is_chosen}
use Rattle.theory_rewriting.specs.Residue.{IsReducedNode}
use Rattle.theory_rewriting.specs.Tables.{arm_of, arm_decides, left_with, left_arms}
use Rattle.theory_rewriting.proofs.Reducing.{default_decides}
use Rattle.opt_switch.specs.declared.choice.Choice.TheVariants.{Nothing, Answer, Only, Several}
use Rattle.opt_switch.specs.Choices.{first_of, choice_of}
use Rattle.opt_switch.specs.Deciding.{hashable, is_default, but_default, choice_over, choice_at}
use Rattle.opt_switch.specs.Steps.{is_switch}

-- the default is no open arm of a table
not_default : (as' : Arms) (t : SwitchTable) (i : ℕ) → is_table as' t ≡ true → arm_decides (arm_of as' i) ≡ None → is_default t.default i ≡ true → ⊥
not_default as' t i h d q = by t.default refl q where
  by : (o : Option ℕ) → t.default ≡ o → is_default o i ≡ true → ⊥
  by None e r = let z : false ≡ true = r in cc
  by (Some j) e r = let z : None ≡ Some true = sym d ∙ default_decides as' t i h (e ∙ ap Some ((Decides-eqb j i).0 r)) in cc

one_arm : (as' : Arms) (t : SwitchTable) (i : ℕ) → is_table as' t ≡ true → but_default t.default (choice_of as' (left_arms as' (i ∷ []))) ≡ Several → ⊥
one_arm as' t i h q = by (arm_decides (arm_of as' i)) refl q where
  by_default : (b : Bool) → is_default t.default i ≡ b → arm_decides (arm_of as' i) ≡ None → cond b Several (Only i) ≡ Several → ⊥
  by_default true e d r = not_default as' t i h d e
  by_default false e d r = let z : Only i ≡ Several = r in cc

  by : (o : Option Bool) → arm_decides (arm_of as' i) ≡ o → but_default t.default (choice_of as' (left_with o i [])) ≡ Several → ⊥
  by (Some false) e r = let z : Nothing ≡ Several = r in cc
  by (Some true) e r = let z : Answer i ≡ Several = sym (ap (λ o. but_default t.default (first_of o i)) e) ∙ r in cc
  by None e r = by_default (is_default t.default i) refl e (sym (ap (λ o. but_default t.default (first_of o i)) e) ∙ r)

not_short : (as' : Arms) (t : SwitchTable) (v : Value) → is_table as' t ≡ true → (o : Option (List ℕ)) → but_default t.default (choice_of as' (left_arms as' (or_ranges t v o))) ≡ Several → is_short o (ranges_with t.ranges v) ≡ false
not_short as' t v h (Some []) q = absurd (let z : Nothing ≡ Several = q in cc)
not_short as' t v h (Some (i ∷ [])) q = absurd (one_arm as' t i h q)
not_short as' t v h (Some (i ∷ j ∷ is)) q = refl
not_short as' t v h None q = by (ranges_with t.ranges v) q where
  by : (rs : List ℕ) → but_default t.default (choice_of as' (left_arms as' rs)) ≡ Several → is_short None rs ≡ false
  by [] r = absurd (let z : Nothing ≡ Several = r in cc)
  by (i ∷ rs) r = refl

several_over : (as' : Arms) (t : SwitchTable) (v : Value) → is_table as' t ≡ true → choice_over as' t (hashable (Some v)) ≡ Several → is_short_for t v ≡ false
several_over as' t v h q = by (is_hashable v) refl q where
  by : (b : Bool) → is_hashable v ≡ b → choice_over as' t (cond b (Some v) None) ≡ Several → b && is_short (case_for t.cases v) (ranges_with t.ranges v) ≡ false
  by true e r = not_short as' t v h (case_for t.cases v) (sym (ap (λ b. but_default t.default (choice_of as' (left_arms as' (or_ranges t v (cond b (case_for t.cases v) None))))) e) ∙ r)
  by false e r = refl

-- a constant's own value is its value
own_is : (e : Expr) (v : Value) → own_value e ≡ Some v → constant_value e ≡ Some v
own_is (DynamicConstant u) v h = h
own_is (BoolConstant b) v h = h
own_is (IntegerConstant n) v h = h
own_is (FloatConstant x) v h = h
own_is (CharConstant c) v h = h
own_is (StringConstant t) v h = h
own_is UnitConstant v h = h
own_is _ v h = absurd cc

not_chosen : (e : Expr) (as' : Arms) (t : SwitchTable) → choice_over as' t (hashable (constant_value e)) ≡ Several → is_table as' t ≡ true → is_chosen e t ≡ false
not_chosen e as' t q h = by (own_value e) refl where
  by : (o : Option Value) → own_value e ≡ o → is_short_over t o ≡ false
  by None i = refl
  by (Some v) i = several_over as' t v h (sym (ap (λ o. choice_over as' t (hashable o)) (own_is e v i)) ∙ q)

pub undecided : (r : Engine) (x : Stmt) → is_switch x ≡ true → choice_at x ≡ Several → IsReducedNode r (OfStmt x)
undecided r (Switch e as' t) s q = not_chosen e as' t q
undecided r _ s q = absurd cc
