-- The parts of a `switch` stay reduced where its table gets smaller, and where it loses answers that no list asks for.
use Rattle.std.proofs.Common.{◌≡◌, ℕ, zero, suc, Bool, true, false, List, [], ◌∷◌, Some, refl, sym, ap, ◌∙◌}
use Rattle.std.specs.Prelude.{◌==◌, ◌||◌, slice_get}
use Rattle.std.proofs.lemmas.Bool.Decides.{Decides-eqb}
use Rattle.theory_meaning.specs.Shape.{names_arm}
use Rattle.theory_meaning.specs.Tree.{SwitchTable, Expr, Arms, no_arms, arm, Switch}
use Rattle.theory_meaning.specs.Walk.{Walk, over_arms, arm_at, arms_at, listed}
use Rattle.theory_rewriting.specs.Answering.{AnswersNothing, of_first}
use Rattle.theory_rewriting.specs.Residue.{IsReducedNode, every_reached}
use Rattle.theory_rewriting.specs.Steps.{KeepsStmtParts}
use Rattle.theory_rewriting.proofs.rules.Arms.{AllArms}
use Rattle.opt_switch.specs.Forgetting.{forgets}

-- ---- what holds of arms by their places

abbrev At : List (Type 0) → ℕ → Type 0
At ps i = arm_at (Unit {0}) ps i

told : (ps : List (Type 0)) (is : List ℕ) → arms_at (Unit {0}) (λ p q. p × q) ps is → AllArms (At ps) is
told ps [] h = tt
told ps (i ∷ is) h = (h.0, told ps is h.1)

untold : (ps : List (Type 0)) (is : List ℕ) → AllArms (At ps) is → arms_at (Unit {0}) (λ p q. p × q) ps is
untold ps [] h = tt
untold ps (i ∷ is) h = (h.0, untold ps is h.1)

-- ---- a smaller table

pub keeps_table : (e : Expr) (as' : Arms) (t t' : SwitchTable) → ((Q : ℕ → Type 0) → AllArms Q (listed t) → AllArms Q (listed t')) → KeepsStmtParts (Switch e as' t) (Switch e as' t')
keeps_table e as' t t' f =
    let arms : (W : Walk (Type 0)) → arms_at (Unit {0}) (λ p q. p × q) (over_arms W as') (listed t) → arms_at (Unit {0}) (λ p q. p × q) (over_arms W as') (listed t') = λ W h. untold _ _ (f (At (over_arms W as')) (told _ _ h)) in
    record {
      parts = λ r h. (tt, ((h.1.0.0, arms (of_first AnswersNothing) h.1.0.1), (h.1.1.0, arms (every_reached (IsReducedNode r)) h.1.1.1)));
      clear = λ ks h. tt;
    }

-- ---- fewer answers

module _ (W : Walk (Type 0)) where
  arm_untouched : (ms : List Bool) (as' : Arms) (i : ℕ) → (slice_get ms i ≡ Some false → ⊥) → At (over_arms W as') i → At (over_arms W (forgets ms as')) i
  arm_untouched ms no_arms i h p = p
  arm_untouched [] (arm c a as') i h p = p
  arm_untouched (true ∷ ms) (arm c a as') zero h p = p
  arm_untouched (false ∷ ms) (arm c a as') zero h p = absurd (h refl)
  arm_untouched (m ∷ ms) (arm c a as') (suc i) h p = arm_untouched ms as' i h p

  arms_untouched : (ms : List Bool) (as' : Arms) (is : List ℕ) → AllArms (λ i. slice_get ms i ≡ Some false → ⊥) is → AllArms (At (over_arms W as')) is → AllArms (At (over_arms W (forgets ms as'))) is
  arms_untouched ms as' [] h p = tt
  arms_untouched ms as' (i ∷ is) h p = (arm_untouched ms as' i h.0 p.0, arms_untouched ms as' is h.1 p.1)

-- each of a list is named by a list that names whatever it does
all_named : (is js : List ℕ) → ((i : ℕ) → names_arm i is ≡ true → names_arm i js ≡ true) → AllArms (λ i. names_arm i js ≡ true) is
all_named [] js f = tt
all_named (i ∷ is) js f = (
  f i (ap (λ b. b || names_arm i is) ((Decides-eqb i i).1 refl)),
  all_named is js (λ j h. f j (later (j == i) (names_arm j is) h)),
) where
  later : (a b : Bool) → b ≡ true → a || b ≡ true
  later true b h = refl
  later false b h = h

-- what is not marked is not listed
unlisted : (ms : List Bool) (is js : List ℕ) → ((i : ℕ) → slice_get ms i ≡ Some false → names_arm i js ≡ false) → AllArms (λ i. names_arm i js ≡ true) is → AllArms (λ i. slice_get ms i ≡ Some false → ⊥) is
unlisted ms [] js h p = tt
unlisted ms (i ∷ is) js h p = (λ q. let z : true ≡ false = sym p.0 ∙ h i q in cc, unlisted ms is js h p.1)

pub keeps_forgotten : (e : Expr) (t : SwitchTable) (as' : Arms) (ms : List Bool) → ((i : ℕ) → slice_get ms i ≡ Some false → names_arm i (listed t) ≡ false) → KeepsStmtParts (Switch e as' t) (Switch e (forgets ms as') t)
keeps_forgotten e t as' ms u =
    let asked = unlisted ms (listed t) (listed t) u (all_named (listed t) (listed t) (λ i h. h)) in
    let arms : (W : Walk (Type 0)) → arms_at (Unit {0}) (λ p q. p × q) (over_arms W as') (listed t) → arms_at (Unit {0}) (λ p q. p × q) (over_arms W (forgets ms as')) (listed t) = λ W h. untold _ _ (arms_untouched W ms as' (listed t) asked (told _ _ h)) in
    record {
      parts = λ r h. (tt, ((h.1.0.0, arms (of_first AnswersNothing) h.1.0.1), (h.1.1.0, arms (every_reached (IsReducedNode r)) h.1.1.1)));
      clear = λ ks h. tt;
    }
