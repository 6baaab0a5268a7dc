-- The rules of a `switch` over a constant: a lemma each, of the rule's name.
use Rattle.std.proofs.Common.{◌≡◌, ℕ, zero, suc, Bool, true, false, cond, List, [], ◌∷◌, Option, Some, None, refl, sym, ap, ◌∙◌, subst}
use Rattle.std.specs.Prelude.{slice_get}
use Rattle.rhai_base.specs.Value.{Value, UnitV}
use Rattle.theory_meaning.specs.Act.{Act, Scoped, run}
use Rattle.theory_meaning.specs.ActForms.{unit, truth, branch}
use Rattle.theory_meaning.specs.Constants.{constant_value, constant_bool, truth_of}
use Rattle.theory_meaning.specs.Control.{ArmActs, chosen, try_arm, first_arm, answer_of, default_of, switch_on}
use Rattle.theory_meaning.specs.Core as core
use Rattle.theory_meaning.specs.Desugar.{core_expr, core_arms, core_stmt, core_stmts}
use Rattle.theory_meaning.specs.Meaning.{act, arm_acts, deed, acts}
use Rattle.theory_meaning.specs.Shape.{is_table}
use Rattle.theory_meaning.specs.Tree.{SwitchTable, Expr, Arms, no_arms, arm, If, Switch, ExprStmt, no_stmts, stmt}
use Rattle.theory_rewriting.specs.Context.{Context}
use Rattle.theory_rewriting.specs.Tables.{arm_of, arm_decides, left_with, left_arms, answer_of_arm, default_answer, default_stmt, default_branch}
use Rattle.theory_soundness.proofs.simulation.Laws.{simulates_to_braces, simulates_to_empty}
use Rattle.theory_soundness.proofs.simulation.Setting.{Setting, world}
use Rattle.theory_soundness.proofs.simulation.Simulation.{Simulates, simulates_trans, simulates_refl}
use Rattle.theory_soundness.proofs.simulation.Forms.{simulates_bind, simulates_if, SimulatesStmt, stmt_of_deed}
use Rattle.theory_soundness.proofs.rules.Given.{constant_then, constant_both, bool_then, bool_value, deed_meant}
use Rattle.theory_soundness.proofs.rules.Sound.{StmtSound}

module _ {k : Context} (c : Setting k) where
  abbrev pub here_of : Expr → core.Expr
  here_of e = core_expr c.in_loop e

  abbrev pub acts_of : Arms → List ArmActs
  acts_of as' = arm_acts (world c) (core_arms c.in_loop as')

  -- an arm's acts
  abbrev pub of_arm : Option (Expr × Expr) → Option ArmActs
  of_arm None = None
  of_arm (Some p) = Some (record { guard = act (world c) (here_of p.0); answer = act (world c) (here_of p.1) })

  pub arm_found : (as' : Arms) (i : ℕ) → slice_get (acts_of as') i ≡ of_arm (arm_of as' i)
  arm_found no_arms i = refl
  arm_found (arm d a as') zero = refl
  arm_found (arm d a as') (suc i) = arm_found as' i

  pub same_arm : (o : Option ArmActs) (n n' : Act) → Simulates c n n' → Simulates c (try_arm o n) (try_arm o n')
  same_arm None n n' h = h
  same_arm (Some a) n n' h = simulates_bind simulates_refl (λ v. simulates_if v simulates_refl h)

  -- after a true one nothing is tried
  branch_alike : (o : Option Bool) (x n n' : Act) → o ≡ Some true → branch o x n ≡ branch o x n'
  branch_alike None x n n' h = absurd (let z : None ≡ Some true = h in cc)
  branch_alike (Some true) x n n' h = refl
  branch_alike (Some false) x n n' h = absurd (let z : Some false ≡ Some true = h in cc)

  true_alone : (o : Option (Expr × Expr)) (n n' : Act) → arm_decides o ≡ Some true → Simulates c (try_arm (of_arm o) n) (try_arm (of_arm o) n')
  true_alone None n n' h = absurd (let z : Some false ≡ Some true = h in cc)
  true_alone (Some p) n n' h = bool_value (constant_value p.0) true h (λ v q.
      constant_both c p.0 v _ _ q (λ env s t i. run (world c) env (branch_alike (truth v) (act (world c) (here_of p.1)) n n' (sym (ap truth_of q) ∙ h) i) s t))

  pub false_goes : (o : Option (Expr × Expr)) (n : Act) → arm_decides o ≡ Some false → Simulates c (try_arm (of_arm o) n) n
  false_goes None n h = simulates_refl
  false_goes (Some p) n h = bool_then c p.0 false (act (world c) (here_of p.1)) n h

  left_by : (as' : Arms) (i : ℕ) (o : Option (Expr × Expr)) (d : Option Bool) (is js : List ℕ) (n : Act) → arm_of as' i ≡ o → arm_decides o ≡ d → Simulates c (first_arm (acts_of as') is n) (first_arm (acts_of as') js n) → Simulates c (try_arm (of_arm o) (first_arm (acts_of as') is n)) (first_arm (acts_of as') (left_with d i js) n)
  left_by as' i o (Some false) is js n e h ih = simulates_trans (false_goes o _ h) ih
  left_by as' i o (Some true) is js n e h ih = subst (λ x. Simulates c (try_arm (of_arm o) (first_arm (acts_of as') is n)) (try_arm x n)) (sym (arm_found as' i ∙ ap of_arm e)) (true_alone o _ n h)
  left_by as' i o None is js n e h ih = subst (λ x. Simulates c (try_arm (of_arm o) (first_arm (acts_of as') is n)) (try_arm x (first_arm (acts_of as') js n))) (sym (arm_found as' i ∙ ap of_arm e)) (same_arm (of_arm o) _ _ ih)

  pub arms_left : (as' : Arms) (is : List ℕ) (n : Act) → Simulates c (first_arm (acts_of as') is n) (first_arm (acts_of as') (left_arms as' is) n)
  arms_left as' [] n = simulates_refl
  arms_left as' (i ∷ is) n = subst (λ x. Simulates c (try_arm x (first_arm (acts_of as') is n)) (first_arm (acts_of as') (left_arms as' (i ∷ is)) n)) (sym (arm_found as' i)) (left_by as' i (arm_of as' i) (arm_decides (arm_of as' i)) is (left_arms as' is) n refl refl (arms_left as' is n))

  -- ---- the default

  abbrev default_act : Option Expr → Act
  default_act None = unit
  default_act (Some e) = act (world c) (here_of e)

  answer_is : (o : Option (Expr × Expr)) → answer_of (of_arm o) ≡ default_act (answer_of_arm o)
  answer_is None = refl
  answer_is (Some p) = refl

  default_is : (as' : Arms) (o : Option ℕ) → default_of (acts_of as') o ≡ default_act (default_answer as' o)
  default_is as' None = refl
  default_is as' (Some i) = ap answer_of (arm_found as' i) ∙ answer_is (arm_of as' i)

  -- what is left over a constant
  left_over : (e : Expr) (as' : Arms) (t : SwitchTable) (v : Value) (js : List ℕ) (a : Act) → constant_value e ≡ Some v → left_arms as' (chosen t v) ≡ js → Simulates c (first_arm (acts_of as') js (default_act (default_answer as' t.default))) a → Simulates c (deed (world c) (core.Switch (here_of e) (core_arms c.in_loop as') t)) a
  left_over e as' t v js a h q j =
      simulates_trans (constant_then c e v (λ u. switch_on (acts_of as') t u) h)
      (simulates_trans (arms_left as' (chosen t v) (default_of (acts_of as') t.default))
      (subst (λ is. Simulates c (first_arm (acts_of as') is (default_of (acts_of as') t.default)) a) (sym q)
      (subst (λ d. Simulates c (first_arm (acts_of as') js d) a) (sym (default_is as' t.default)) j)))

  at_arm : (as' : Arms) (j : ℕ) (p : Expr × Expr) (n a : Act) → arm_of as' j ≡ Some p → Simulates c (try_arm (of_arm (Some p)) n) a → Simulates c (try_arm (slice_get (acts_of as') j) n) a
  at_arm as' j p n a h i = subst (λ x. Simulates c (try_arm x n) a) (sym (arm_found as' j ∙ ap of_arm h)) i

  to_branch : (o : Option Expr) → Simulates c (default_act o) (Scoped (acts (world c) true (core_stmts c.in_loop (default_branch o)) UnitV))
  to_branch None = simulates_to_empty
  to_branch (Some e) = simulates_to_braces (act (world c) (here_of e))

-- ---- the rules

pub switch_answers : {k : Context} {w : Bool} {e : Expr} {as' : Arms} {t : SwitchTable} {d a : Expr} (v : Value) (j : ℕ) (js : List ℕ) → constant_value e ≡ Some v → left_arms as' (chosen t v) ≡ j ∷ js → arm_of as' j ≡ Some (d, a) → constant_bool d ≡ Some true → StmtSound k w (Switch e as' t) (ExprStmt a)
switch_answers {e = e} {as' = as'} {t = t} {d = d} {a = a} v j js h q r x = record {
  sound = λ c. stmt_of_deed (deed_meant (is_table as' t) (core.Switch (core_expr c.in_loop e) (core_arms c.in_loop as') t)
      (left_over c e as' t v (j ∷ js) _ h q (at_arm c as' j (d, a) _ _ r (bool_then c d true (act (world c) (core_expr c.in_loop a)) _ x))));
}

pub switch_is_if : {k : Context} {w : Bool} {e : Expr} {as' : Arms} {t : SwitchTable} {d a : Expr} (v : Value) (j : ℕ) → constant_value e ≡ Some v → left_arms as' (chosen t v) ≡ j ∷ [] → arm_of as' j ≡ Some (d, a) → (t.default ≡ Some j → ⊥) → StmtSound k w (Switch e as' t) (If d (stmt (ExprStmt a) no_stmts) (default_branch (default_answer as' t.default)))
switch_is_if {e = e} {as' = as'} {t = t} {d = d} {a = a} v j h q r x = record {
  sound = λ c. stmt_of_deed (deed_meant (is_table as' t) (core.Switch (core_expr c.in_loop e) (core_arms c.in_loop as') t)
      (left_over c e as' t v (j ∷ []) _ h q (at_arm c as' j (d, a) _ _ r (simulates_bind simulates_refl (λ u. simulates_if u (to_branch c (Some a)) (to_branch c (default_answer as' t.default)))))));
}

pub switch_defaults : {k : Context} {w : Bool} {e : Expr} {as' : Arms} {t : SwitchTable} (v : Value) → constant_value e ≡ Some v → left_arms as' (chosen t v) ≡ [] → StmtSound k w (Switch e as' t) (default_stmt (default_answer as' t.default))
switch_defaults {w = w} {e = e} {as' = as'} {t = t} v h q = record {
  sound = λ c. by c (default_answer as' t.default) (λ a j. deed_meant (is_table as' t) (core.Switch (core_expr c.in_loop e) (core_arms c.in_loop as') t) (left_over c e as' t v [] a h q j));
} where
  by : {k : Context} (c : Setting k) (o : Option Expr) → ((a : Act) → Simulates c (default_act c o) a → Simulates c (deed (world c) (cond (is_table as' t) (core.Switch (core_expr c.in_loop e) (core_arms c.in_loop as') t) core.IllDeed)) a) → SimulatesStmt c w (core_stmt c.in_loop (Switch e as' t)) (core_stmt c.in_loop (default_stmt o))
  by c None j = stmt_of_deed (j _ simulates_to_empty)
  by c (Some x) j = stmt_of_deed (j _ simulates_refl)
