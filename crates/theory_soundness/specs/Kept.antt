-- What the optimiser keeps of every script, whether it is run or not.
use Rattle.std.specs.Prelude.{◌≡◌, ◌≤◌, Bool, true, List, [], ◌∷◌}
use Rattle.theory_meaning.specs.Faults.{IsWellFormedScript}
use Rattle.theory_meaning.specs.OperatorCalls.{CallsOperatorsAlone}
use Rattle.theory_meaning.specs.Plain.{all_true, is_plain}
use Rattle.theory_meaning.specs.Tree.{Callee, Function, Script}
use Rattle.theory_meaning.specs.Walk.{every, over_script}
use Rattle.theory_meaning.specs.Weight.{weight}
use Rattle.theory_rewriting.specs.Scripts.{Captures, assigns_to_place}

-- each body by itself, in order
abbrev pub AreNoHeavier : List Function → List Function → Type 0
AreNoHeavier [] [] = Unit {0}
AreNoHeavier (f ∷ fs) (f' ∷ fs') = (weight f'.body ≤ weight f.body) × AreNoHeavier fs fs'
AreNoHeavier _ _ = ⊥

-- of p in p'
pub record Keeps (p p' : Script) : Type 0 where
  pub well_formed : IsWellFormedScript p → IsWellFormedScript p'
  pub plain : is_plain p ≡ true → is_plain p' ≡ true
  -- where every assignment has a place
  pub places : over_script (all_true assigns_to_place) p ≡ true → over_script (all_true assigns_to_place) p' ≡ true
  -- a call that captures is none that is new: what holds of all callees that capture still does
  pub captures : (Q : Callee → Bool) → over_script (every (Captures (λ c. Q c ≡ true))) p → over_script (every (Captures (λ c. Q c ≡ true))) p'
  pub operators : CallsOperatorsAlone p → CallsOperatorsAlone p'
  pub statements : weight p'.statements ≤ weight p.statements
  pub functions : AreNoHeavier p.functions p'.functions
