-- A tree is well-formed exactly where it has no first fault.
use Rattle.std.proofs.Common.{◌≡◌, ℕ, Bool, true, false, not, List, [], ◌∷◌, Option, Some, None, refl}
use Rattle.theory_meaning.specs.Faults.{TreeFault, ReservedName, fault_of, unless, faultless, finding, is_reserved, AreWellFormedFunctions, functions_fault, ◌then◌}
use Rattle.theory_meaning.specs.Laws.{WellFormedLaw}
use Rattle.theory_meaning.specs.Tree.{Function, Script, Stmts}
use Rattle.theory_meaning.specs.Walk.{Around, outermost, around_spot, around_parts, arm_at, arms_at, listed, over_stmts}
use Rattle.theory_meaning.proofs.Walk.{Alongside, stmts_alongside}

-- no fault is found exactly where P holds, wherever the part stands
abbrev Agree : (Around → Option TreeFault) → (Around → Type 0) → Type 0
Agree f P = (a : Around) → (f a ≡ None → P a) × (P a → f a ≡ None)

first_none : (o p : Option TreeFault) → o then p ≡ None → (o ≡ None) × (p ≡ None)
first_none None p h = (refl, h)
first_none (Some f) p h = absurd (let z : Some f ≡ None = h in cc)

both_none : (o p : Option TreeFault) → o ≡ None → p ≡ None → o then p ≡ None
both_none None p h k = k
both_none (Some f) p h k = h

agree_both : (f g : Around → Option TreeFault) (P Q : Around → Type 0) → Agree f P → Agree g Q → Agree (λ a. f a then g a) (λ a. P a × Q a)
agree_both f g P Q h k a = ((λ q. let z = first_none (f a) (g a) q in ((h a).0 z.0, (k a).0 z.1)), (λ q. both_none (f a) (g a) ((h a).1 q.0) ((k a).1 q.1)))

agree_none : Agree (λ a. None) (λ a. Unit {0})
agree_none a = ((λ q. tt), (λ q. refl))

agree_arms : (fs : List (Around → Option TreeFault)) (Ps : List (Around → Type 0)) → ((i : ℕ) → Agree (arm_at (λ a. None) fs i) (arm_at (λ a. Unit {0}) Ps i)) → (is : List ℕ) → Agree (arms_at (λ a. None) (λ p q a. p a then q a) fs is) (arms_at (λ a. Unit {0}) (λ p q a. p a × q a) Ps is)
agree_arms fs Ps h [] = agree_none
agree_arms fs Ps h (i ∷ is) = agree_both _ _ _ _ (h i) (agree_arms fs Ps h is)

found_alongside : Alongside Agree finding faultless
found_alongside = record {
  none = agree_none;
  both = λ f g P Q h k. agree_both f g P Q h k;
  node = λ n f P h a. ((λ q. let z = first_none (fault_of a n) (f (around_parts n a)) q in (z.0, (h (around_parts n a)).0 z.1)), (λ q. both_none (fault_of a n) (f (around_parts n a)) q.0 ((h (around_parts n a)).1 q.1)));
  within = λ s f P h a. h (around_spot s a);
  arms = λ t fs Ps h. agree_arms fs Ps h (listed t);
}

stmts_found : (ss : Stmts) → Agree (over_stmts finding ss) (over_stmts faultless ss)
stmts_found ss = stmts_alongside Agree finding faultless found_alongside ss

name_found : (b : Bool) → (unless (not b) ReservedName ≡ None → b ≡ false) × (b ≡ false → unless (not b) ReservedName ≡ None)
name_found true = ((λ h. absurd (let z : Some ReservedName ≡ None = h in cc)), (λ h. absurd (let z : true ≡ false = h in cc)))
name_found false = ((λ h. refl), (λ h. refl))

functions_found : (fs : List Function) → (functions_fault fs ≡ None → AreWellFormedFunctions fs) × (AreWellFormedFunctions fs → functions_fault fs ≡ None)
functions_found [] = ((λ h. tt), (λ h. refl))
functions_found (f ∷ fs) =
    let name = name_found (is_reserved f.name) in
    let body = stmts_found f.body outermost in
    let rest = functions_found fs in (
      (λ h.
          let y = first_none (unless (not (is_reserved f.name)) ReservedName) (over_stmts finding f.body outermost then functions_fault fs) h in
          let z = first_none (over_stmts finding f.body outermost) (functions_fault fs) y.1 in
          (name.0 y.0, body.0 z.0, rest.0 z.1)),
      (λ h. both_none (unless (not (is_reserved f.name)) ReservedName) (over_stmts finding f.body outermost then functions_fault fs) (name.1 h.0) (both_none (over_stmts finding f.body outermost) (functions_fault fs) (body.1 h.1) (rest.1 h.2))),
    )

pub well_formed_law : (p : Script) → WellFormedLaw p
well_formed_law p =
    let body = stmts_found p.statements outermost in
    let rest = functions_found p.functions in (
      (λ h. let z = first_none (over_stmts finding p.statements outermost) (functions_fault p.functions) h in (body.0 z.0, rest.0 z.1)),
      (λ h. both_none (over_stmts finding p.statements outermost) (functions_fault p.functions) (body.1 h.0) (rest.1 h.1)),
    )
