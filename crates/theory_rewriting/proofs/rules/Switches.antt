-- The rules of a `switch` over a constant: a lemma each, of the rule's name.
use Rattle.std.proofs.Common.{◌≡◌, ℕ, ◌+◌, ◌≤◌, Bool, true, List, [], ◌∷◌, Option, Some, None, sym, ap, subst, arith}
use Rattle.rhai_base.specs.Value.{Value}
use Rattle.theory_meaning.specs.Constants.{constant_value, constant_bool}
use Rattle.theory_meaning.specs.Control.{chosen}
use Rattle.theory_meaning.specs.Tree.{SwitchTable, Expr, Arms, If, Switch, ExprStmt, no_stmts, stmt}
use Rattle.theory_meaning.specs.Walk.{Node, Around, whole, throughout, arm_of_default, listed, over_expr, over_stmt, over_stmts}
use Rattle.theory_meaning.specs.Weight.{expr_weight, stmt_weight, weight}
use Rattle.theory_rewriting.specs.Context.{Context}
use Rattle.theory_rewriting.specs.Tables.{arm_of, left_arms, answer_of_arm, default_answer, default_stmt, default_branch}
use Rattle.theory_rewriting.proofs.rules.Arms.{AllArms, all_chosen, all_default, all_left, ArmHolds, all_hold, HoldsOf, arm_holds, arms_weight, arm_weight, arm_light, two_light}
use Rattle.theory_rewriting.proofs.rules.Lasting.{Lasting}
use Rattle.theory_rewriting.proofs.rules.Obligation.{StmtObligation}

-- ---- what is left stood there, and weighs less

abbrev default_weight_of : Option Expr → ℕ
default_weight_of None = 0
default_weight_of (Some e) = expr_weight e

default_light : (as' : Arms) (o : Option ℕ) → default_weight_of (default_answer as' o) ≤ arms_weight as'
default_light as' None = omega arith
default_light as' (Some i) = by (arm_of as' i) (arm_light as' i) where
  by : (o : Option (Expr × Expr)) → arm_weight o ≤ arms_weight as' → default_weight_of (answer_of_arm o) ≤ arms_weight as'
  by None h = omega arith
  by (Some p) h = omega (arith, h)

default_stmt_light : (o : Option Expr) → stmt_weight (default_stmt o) ≤ 3 + default_weight_of o
default_stmt_light None = omega arith
default_stmt_light (Some e) = omega arith

default_branch_light : (o : Option Expr) → weight (default_branch o) ≤ 1 + default_weight_of o
default_branch_light None = omega arith
default_branch_light (Some e) = omega arith

-- an arm and a default that isn't it
both_light : (as' : Arms) (o : Option ℕ) (j : ℕ) → (o ≡ Some j → ⊥) → arm_weight (arm_of as' j) + default_weight_of (default_answer as' o) ≤ arms_weight as'
both_light as' None j h = omega (arith, arm_light as' j)
both_light as' (Some d) j h = by (arm_of as' d) (two_light as' j d (λ e. h (ap Some (sym e)))) where
  by : (o : Option (Expr × Expr)) → arm_weight (arm_of as' j) + arm_weight o ≤ arms_weight as' → arm_weight (arm_of as' j) + default_weight_of (answer_of_arm o) ≤ arms_weight as'
  by None h = omega (arith, h)
  by (Some p) h = omega (arith, h)

arm_weighs : (as' : Arms) (j : ℕ) (d a : Expr) → arm_of as' j ≡ Some (d, a) → expr_weight d + expr_weight a ≡ arm_weight (arm_of as' j)
arm_weighs as' j d a h = ap arm_weight (sym h)

module _ (P : Around → Node → Type 0) (l : Bool) (lasts : Lasting P l) where
  -- the first arm that is left
  left_holds : (as' : Arms) (t : SwitchTable) (v : Value) (j : ℕ) (js : List ℕ) (d a : Expr) → left_arms as' (chosen t v) ≡ j ∷ js → arm_of as' j ≡ Some (d, a) → AllArms (ArmHolds P l as') (listed t) → over_expr (throughout P) d (whole l) × over_expr (throughout P) a (whole l)
  left_holds as' t v j js d a q r h =
      let x = subst (AllArms (ArmHolds P l as')) q (all_left (ArmHolds P l as') as' (chosen t v) (all_chosen (ArmHolds P l as') t v h)) in
      subst (HoldsOf P l) r (arm_holds P l as' j x.0)

  abbrev AnswerHolds : Option Expr → Type 0
  AnswerHolds None = Unit {0}
  AnswerHolds (Some e) = over_expr (throughout P) e (whole l)

  default_holds : (as' : Arms) (o : Option ℕ) → AllArms (ArmHolds P l as') (arm_of_default o) → AnswerHolds (default_answer as' o)
  default_holds as' None h = tt
  default_holds as' (Some i) h = by (arm_of as' i) (arm_holds P l as' i h.0) where
    by : (o : Option (Expr × Expr)) → HoldsOf P l o → AnswerHolds (answer_of_arm o)
    by None h = tt
    by (Some p) h = h.1

  stmt_holds : (o : Option Expr) → AnswerHolds o → over_stmt (throughout P) (default_stmt o) (whole l)
  stmt_holds None h = (lasts.block no_stmts, tt)
  stmt_holds (Some e) h = (lasts.expression e, h)

  branch_holds : (o : Option Expr) → AnswerHolds o → over_stmts (throughout P) (default_branch o) (whole l)
  branch_holds None h = tt
  branch_holds (Some e) h = ((lasts.expression e, h), tt)

-- ---- the rules

pub switch_answers : {k : Context} {w : Bool} {e : Expr} {as' : Arms} {t : SwitchTable} {d a : Expr} (v : Value) (j : ℕ) (js : List ℕ) → constant_value e ≡ Some v → left_arms as' (chosen t v) ≡ j ∷ js → arm_of as' j ≡ Some (d, a) → constant_bool d ≡ Some true → StmtObligation k w (Switch e as' t) (ExprStmt a)
switch_answers {e = e} {as' = as'} {t = t} {d = d} {a = a} v j js h q r x = record {
  lighter = omega (arith, arm_light as' j, arm_weighs as' j d a r);
  keeps = λ P l lasts y. (lasts.expression a, (left_holds P l lasts as' t v j js d a q r (all_hold P l as' (listed t) y.1.1)).1);
}

pub switch_is_if : {k : Context} {w : Bool} {e : Expr} {as' : Arms} {t : SwitchTable} {d a : Expr} (v : Value) (j : ℕ) → constant_value e ≡ Some v → left_arms as' (chosen t v) ≡ j ∷ [] → arm_of as' j ≡ Some (d, a) → (t.default ≡ Some j → ⊥) → StmtObligation k w (Switch e as' t) (If d (stmt (ExprStmt a) no_stmts) (default_branch (default_answer as' t.default)))
switch_is_if {e = e} {as' = as'} {t = t} {d = d} {a = a} v j h q r x = record {
  lighter = omega (arith, both_light as' t.default j x, arm_weighs as' j d a r, default_branch_light (default_answer as' t.default));
  keeps = λ P l lasts y.
      let all = all_hold P l as' (listed t) y.1.1 in
      let z = left_holds P l lasts as' t v j [] d a q r all in
      (lasts.branching _ _ _, (z.0, (((lasts.expression a, z.1), tt), branch_holds P l lasts (default_answer as' t.default) (default_holds P l lasts as' t.default (all_default (ArmHolds P l as') t all)))));
}

pub switch_defaults : {k : Context} {w : Bool} {e : Expr} {as' : Arms} {t : SwitchTable} (v : Value) → constant_value e ≡ Some v → left_arms as' (chosen t v) ≡ [] → StmtObligation k w (Switch e as' t) (default_stmt (default_answer as' t.default))
switch_defaults {w = w} {e = e} {as' = as'} {t = t} v h q = record {
  lighter = omega (arith, default_light as' t.default, default_stmt_light (default_answer as' t.default));
  keeps = λ P l lasts y. stmt_holds P l lasts (default_answer as' t.default) (default_holds P l lasts as' t.default (all_default (ArmHolds P l as') t (all_hold P l as' (listed t) y.1.1)));
}
