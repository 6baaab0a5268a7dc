-- The rule by which an arm that no list names forgets its answer.
use Rattle.std.proofs.Common.{◌≡◌, ℕ, zero, suc, Bool, true, false, List, [], ◌∷◌, Option, Some, None, refl, sym, ap, ◌∙◌, subst}
use Rattle.std.specs.Prelude.{slice_get}
use Rattle.rhai_base.specs.Value.{Value}
use Rattle.theory_meaning.specs.Act.{Act}
use Rattle.theory_meaning.specs.Constants.{is_literal_unit}
use Rattle.theory_meaning.specs.Control.{try_arm, first_arm, answer_of, default_of, chosen, switch_on}
use Rattle.theory_meaning.specs.Core as core
use Rattle.theory_meaning.specs.Desugar.{core_expr, core_arms}
use Rattle.theory_meaning.specs.Shape.{names_arm, is_table}
use Rattle.theory_meaning.specs.Tree.{SwitchTable, Expr, Arms, no_arms, arm, Switch}
use Rattle.theory_meaning.specs.Walk.{arm_of_default, listed}
use Rattle.theory_meaning.specs.Weight.{expr_weight}
use Rattle.theory_rewriting.specs.Context.{Context}
use Rattle.theory_rewriting.specs.Tables.{arm_of, forgotten}
use Rattle.theory_soundness.proofs.simulation.Setting.{Setting}
use Rattle.theory_soundness.proofs.simulation.Simulation.{Simulates, simulates_refl}
use Rattle.theory_soundness.proofs.simulation.Forms.{simulates_bind, stmt_of_deed}
use Rattle.theory_rewriting.proofs.rules.Arms.{AllArms, all_chosen, all_default}
use Rattle.theory_soundness.proofs.rules.Switches.{acts_of, of_arm, arm_found}
use Rattle.theory_soundness.proofs.rules.Tables.{meant_again}
use Rattle.theory_rewriting.proofs.rules.Forgetting.{answer_weight, table_stays, unnamed}
use Rattle.theory_soundness.proofs.rules.Sound.{StmtSound}

others_stay : (as' : Arms) (j i : ℕ) → (i ≡ j → ⊥) → arm_of (forgotten as' j) i ≡ arm_of as' i
others_stay no_arms j i h = refl
others_stay (arm c a as') zero zero h = absurd (h refl)
others_stay (arm c a as') zero (suc i) h = refl
others_stay (arm c a as') (suc j) zero h = refl
others_stay (arm c a as') (suc j) (suc i) h = others_stay as' j i (λ e. h (ap suc e))

module _ {k : Context} (c : Setting k) (as' : Arms) (j : ℕ) where
  same_slot : (i : ℕ) → (i ≡ j → ⊥) → slice_get (acts_of c (forgotten as' j)) i ≡ slice_get (acts_of c as') i
  same_slot i h = arm_found c (forgotten as' j) i ∙ ap (of_arm c) (others_stay as' j i h) ∙ sym (arm_found c as' i)

  same_first : (is : List ℕ) (n n' : Act) → AllArms (λ i. i ≡ j → ⊥) is → n ≡ n' → first_arm (acts_of c (forgotten as' j)) is n ≡ first_arm (acts_of c as') is n'
  same_first [] n n' h e = e
  same_first (i ∷ is) n n' h e = λ x. try_arm (same_slot i h.0 x) (same_first is n n' h.1 e x)

  same_default : (o : Option ℕ) → AllArms (λ i. i ≡ j → ⊥) (arm_of_default o) → default_of (acts_of c (forgotten as' j)) o ≡ default_of (acts_of c as') o
  same_default None h = refl
  same_default (Some d) h = ap answer_of (same_slot d h.0)

  same_switch_on : (t : SwitchTable) (v : Value) → AllArms (λ i. i ≡ j → ⊥) (listed t) → switch_on (acts_of c (forgotten as' j)) t v ≡ switch_on (acts_of c as') t v
  same_switch_on t v h = same_first (chosen t v) _ _ (all_chosen (λ i. i ≡ j → ⊥) t v h) (same_default t.default (all_default (λ i. i ≡ j → ⊥) t h))

pub switch_forgets : {k : Context} {w : Bool} {e : Expr} {as' : Arms} {t : SwitchTable} {c a : Expr} (j : ℕ) → arm_of as' j ≡ Some (c, a) → is_literal_unit a ≡ false → names_arm j (listed t) ≡ false → StmtSound k w (Switch e as' t) (Switch e (forgotten as' j) t)
switch_forgets {e = e} {as' = as'} {t = t} {c = d} {a = a} j q u n =
    let m : expr_weight a ≡ answer_weight (arm_of as' j) = ap answer_weight (sym q) in
    let x : is_table as' t ≡ true → is_table (forgotten as' j) t ≡ true = λ h. table_stays as' j t ∙ h in
    record {
      sound = λ c. stmt_of_deed (meant_again c (is_table as' t) (is_table (forgotten as' j) t) (core.Switch (core_expr c.in_loop e) (core_arms c.in_loop as') t) (core.Switch (core_expr c.in_loop e) (core_arms c.in_loop (forgotten as' j)) t) x
          (simulates_bind simulates_refl (λ v. subst (λ b. Simulates c (switch_on (acts_of c as') t v) b) (sym (same_switch_on c as' j t v (unnamed j (listed t) n))) simulates_refl)));
    }
