-- The rules by which the table of a `switch` gets smaller: a lemma each, of the rule's name.
use Rattle.std.proofs.Common.{◌≡◌, ℕ, Bool, true, false, cond, List, [], ◌∷◌, Option, Some, None, refl, sym, ap, ◌∙◌, subst}
use Rattle.rhai_base.specs.Value.{Value, same, is_hashable}
use Rattle.theory_meaning.specs.Act.{WrongKind, Act}
use Rattle.theory_meaning.specs.Constants.{constant_value}
use Rattle.theory_meaning.specs.Control.{holds, ranges_with, case_for, or_ranges, chosen, try_arm, first_arm, default_of, switch_on}
use Rattle.theory_meaning.specs.Core as core
use Rattle.theory_meaning.specs.Desugar.{core_expr, core_arms}
use Rattle.theory_meaning.specs.Meaning.{deed}
use Rattle.theory_meaning.specs.Shape.{is_table}
use Rattle.theory_meaning.specs.Tree.{SwitchCase, SwitchRange, SwitchTable, Expr, Arms, Switch}
use Rattle.theory_rewriting.specs.Context.{Context}
use Rattle.theory_rewriting.specs.Tables.{arm_of, arm_decides, left_arms}
use Rattle.theory_rewriting.specs.Shrinking.{AreDistinct, left_ranges, has_some, left_cases, shrinks, shrunk}
use Rattle.theory_rewriting.specs.Narrowing.{narrows_by, narrowed_by}
use Rattle.theory_soundness.proofs.simulation.Laws.{simulates_stuck}
use Rattle.theory_soundness.proofs.simulation.Setting.{Setting, world}
use Rattle.theory_soundness.proofs.simulation.Simulation.{Simulates, simulates_trans, simulates_refl}
use Rattle.theory_soundness.proofs.simulation.Forms.{simulates_bind, stmt_of_deed}
use Rattle.theory_rewriting.proofs.rules.Equality.{same_is}
use Rattle.theory_rewriting.proofs.rules.Fitting.{fits_still}
use Rattle.theory_soundness.proofs.rules.Given.{constant_alike}
use Rattle.theory_rewriting.proofs.rules.Narrowed.{fits_narrowed, chosen_narrowed, default_same}
use Rattle.theory_rewriting.proofs.rules.Shrunk.{RangesTo, no_ranges, range_stays, false_range_goes, CasesTo, no_cases, case_shrinks, empty_case_goes, ranges_to, cases_to}
use Rattle.theory_soundness.proofs.rules.Switches.{acts_of, arm_found, same_arm, false_goes, arms_left}
use Rattle.theory_soundness.proofs.rules.Sound.{StmtSound}

module _ {k : Context} (c : Setting k) (as' : Arms) where
  -- what is tried of one list of arms is tried of another
  abbrev Tried : List ℕ → List ℕ → Type 0
  Tried is js = (n : Act) → Simulates c (first_arm (acts_of c as') is n) (first_arm (acts_of c as') js n)

  false_arm : (i : ℕ) (is js : List ℕ) → arm_decides (arm_of as' i) ≡ Some false → Tried is js → Tried (i ∷ is) js
  false_arm i is js h k n = subst (λ x. Simulates c (try_arm x (first_arm (acts_of c as') is n)) (first_arm (acts_of c as') js n)) (sym (arm_found c as' i)) (simulates_trans (false_goes c (arm_of as' i) _ h) (k n))

  one_stays : (b : Bool) (i : ℕ) (is js : List ℕ) → Tried is js → Tried (cond b (i ∷ is) is) (cond b (i ∷ js) js)
  one_stays true i is js k n = same_arm c _ _ _ (k n)
  one_stays false i is js k n = k n

  one_goes : (b : Bool) (i : ℕ) (is js : List ℕ) → arm_decides (arm_of as' i) ≡ Some false → Tried is js → Tried (cond b (i ∷ is) is) js
  one_goes true i is js h k = false_arm i is js h k
  one_goes false i is js h k = k

  ranges_tried : {rs qs : List SwitchRange} → RangesTo as' rs qs → (v : Value) → Tried (ranges_with rs v) (ranges_with qs v)
  ranges_tried no_ranges v = λ n. simulates_refl
  ranges_tried (range_stays {r = r} {rs = rs} {qs = qs} p) v = one_stays (holds r.range v) r.arm (ranges_with rs v) (ranges_with qs v) (ranges_tried p v)
  ranges_tried (false_range_goes {r = r} {rs = rs} {qs = qs} h p) v = one_goes (holds r.range v) r.arm (ranges_with rs v) (ranges_with qs v) h (ranges_tried p v)

  -- the list that stands for a subject, or the ranges
  abbrev by_list : List SwitchRange → Value → Option (List ℕ) → List ℕ
  by_list rs v (Some is) = is
  by_list rs v None = ranges_with rs v

  pick : (b : Bool) (rs qs : List SwitchRange) (v : Value) (is js : List ℕ) (o p : Option (List ℕ)) → Tried is js → Tried (by_list rs v o) (by_list qs v p) → Tried (by_list rs v (cond b (Some is) o)) (by_list qs v (cond b (Some js) p))
  pick true rs qs v is js o p h k = h
  pick false rs qs v is js o p h k = k

  none_left : (qs : List SwitchRange) (v : Value) (is : List ℕ) → qs ≡ [] → left_arms as' is ≡ [] → Tried is (ranges_with qs v)
  none_left qs v is h q n = subst (λ xs. Simulates c (first_arm (acts_of c as') is n) (first_arm (acts_of c as') (ranges_with xs v) n)) (sym h) (subst (λ js. Simulates c (first_arm (acts_of c as') is n) (first_arm (acts_of c as') js n)) q (arms_left c as' is n))

  gone : (b : Bool) (u : Value) (rs qs : List SwitchRange) (v : Value) (is : List ℕ) (ds : List SwitchCase) (o : Option (List ℕ)) → same u v ≡ b → qs ≡ [] → left_arms as' is ≡ [] → case_for ds u ≡ None → Tried (by_list rs v o) (by_list qs v (case_for ds v)) → Tried (by_list rs v (cond b (Some is) o)) (by_list qs v (case_for ds v))
  gone true u rs qs v is ds o e h q r k = subst (λ x. Tried is (by_list qs v x)) (sym (ap (case_for ds) (sym (same_is u v e)) ∙ r)) (none_left qs v is h q)
  gone false u rs qs v is ds o e h q r k = k

  cases_tried : {rs qs : List SwitchRange} {cs ds : List SwitchCase} → CasesTo as' qs cs ds → RangesTo as' rs qs → (v : Value) → Tried (by_list rs v (case_for cs v)) (by_list qs v (case_for ds v))
  cases_tried no_cases p v = ranges_tried p v
  cases_tried {rs} {qs} (case_shrinks {v = u} {is = is} {cs = cs} {ds = ds} q) p v = pick (same u v) rs qs v is (left_arms as' is) (case_for cs v) (case_for ds v) (arms_left c as' is) (cases_tried q p v)
  cases_tried {rs} {qs} (empty_case_goes {v = u} {is = is} {cs = cs} {ds = ds} h q r i) p v = gone (same u v) u rs qs v is ds (case_for cs v) refl h q r (cases_tried i p v)

  or_is : (t : SwitchTable) (v : Value) (o : Option (List ℕ)) → or_ranges t v o ≡ by_list t.ranges v o
  or_is t v None = refl
  or_is t v (Some is) = refl

  hashed : (b : Bool) (rs qs : List SwitchRange) (v : Value) (o p : Option (List ℕ)) → Tried (ranges_with rs v) (ranges_with qs v) → Tried (by_list rs v o) (by_list qs v p) → Tried (by_list rs v (cond b o None)) (by_list qs v (cond b p None))
  hashed true rs qs v o p h k = k
  hashed false rs qs v o p h k = h

  table_tried : (t : SwitchTable) {cs : List SwitchCase} {qs : List SwitchRange} → CasesTo as' qs t.cases cs → RangesTo as' t.ranges qs → (v : Value) → Tried (chosen t v) (chosen (record { cases = cs; ranges = qs; default = t.default }) v)
  table_tried t {cs} {qs} q p v =
      let o = cond (is_hashable v) (case_for t.cases v) None in
      let o' = cond (is_hashable v) (case_for cs v) None in
      let z = hashed (is_hashable v) t.ranges qs v (case_for t.cases v) (case_for cs v) (ranges_tried p v) (cases_tried q p v) in
      subst (λ is. Tried is (or_ranges (record { cases = cs; ranges = qs; default = t.default }) v o')) (sym (or_is t v o)) (subst (λ js. Tried (by_list t.ranges v o) js) (sym (or_is (record { cases = cs; ranges = qs; default = t.default }) v o')) z)

-- the new node has a meaning where the old one has
pub meant_again : {k : Context} (c : Setting k) (b b' : Bool) (x y : core.Deed) → (b ≡ true → b' ≡ true) → Simulates c (deed (world c) x) (deed (world c) y) → Simulates c (deed (world c) (cond b x core.IllDeed)) (deed (world c) (cond b' y core.IllDeed))
meant_again c true b' x y h j = subst (λ z. Simulates c (deed (world c) x) (deed (world c) (cond z y core.IllDeed))) (sym (h refl)) j
meant_again c false b' x y h j = simulates_stuck WrongKind (deed (world c) (cond b' y core.IllDeed))

-- ---- the rules

pub switch_shrinks : {k : Context} {w : Bool} {e : Expr} {as' : Arms} {t : SwitchTable} → AreDistinct t.cases → shrinks as' t ≡ true → StmtSound k w (Switch e as' t) (Switch e as' (shrunk as' t))
switch_shrinks {e = e} {as' = as'} {t = t} d h =
    let qs = left_ranges as' t.ranges in
    let cs = left_cases as' (has_some qs) t.cases in
    let t' : SwitchTable = shrunk as' t in
    let p = cases_to as' qs (has_some qs) t.cases refl d in
    let q = ranges_to as' t.ranges in
    let x = fits_still as' t cs qs p q in
    record {
      sound = λ c. stmt_of_deed (meant_again c (is_table as' t) (is_table as' t') (core.Switch (core_expr c.in_loop e) (core_arms c.in_loop as') t) (core.Switch (core_expr c.in_loop e) (core_arms c.in_loop as') t') x
          (simulates_bind simulates_refl (λ v. table_tried c as' t p q v (default_of (acts_of c as') t.default))));
    }

-- over a constant
narrowed : {k : Context} (c : Setting k) (e : Expr) (as' : Arms) (t t' : SwitchTable) (v : Value) → constant_value e ≡ Some v → chosen t' v ≡ left_arms as' (chosen t v) → t'.default ≡ t.default → Simulates c (switch_on (acts_of c as') t v) (switch_on (acts_of c as') t' v)
narrowed c e as' t t' v h q d =
    subst (λ is. Simulates c (switch_on (acts_of c as') t v) (first_arm (acts_of c as') is (default_of (acts_of c as') t'.default))) (sym q)
    (subst (λ o. Simulates c (switch_on (acts_of c as') t v) (first_arm (acts_of c as') (left_arms as' (chosen t v)) (default_of (acts_of c as') o))) (sym d)
    (arms_left c as' (chosen t v) (default_of (acts_of c as') t.default)))

pub switch_narrows : {k : Context} {w : Bool} {e : Expr} {as' : Arms} {t : SwitchTable} (v : Value) → constant_value e ≡ Some v → is_hashable v ≡ true → narrows_by as' t v (case_for t.cases v) ≡ true → StmtSound k w (Switch e as' t) (Switch e as' (narrowed_by as' t v (case_for t.cases v)))
switch_narrows {e = e} {as' = as'} {t = t} v h i n =
    let o = case_for t.cases v in
    let t' = narrowed_by as' t v o in
    let x = fits_narrowed as' v t o in
    record {
      sound = λ c. stmt_of_deed (meant_again c (is_table as' t) (is_table as' t') (core.Switch (core_expr c.in_loop e) (core_arms c.in_loop as') t) (core.Switch (core_expr c.in_loop e) (core_arms c.in_loop as') t') x
          (constant_alike c e v (λ u. switch_on (acts_of c as') t u) (λ u. switch_on (acts_of c as') t' u) h (narrowed c e as' t t' v h (chosen_narrowed as' v t o i refl) (default_same as' v t o))));
    }
