-- The rules of `&&`, `||` and `??`: a lemma each, of the rule's name.
use Rattle.std.proofs.Common.{◌≡◌, Bool, true, false, not, Option, Some, None, refl, sym, subst}
use Rattle.rhai_base.specs.Value.{Value, UnitV, BoolV}
use Rattle.theory_meaning.specs.Act.{World, Act, run}
use Rattle.theory_meaning.specs.ActForms.{give, unit, choose, truth, branch, if_true, ◌>>=◌}
use Rattle.theory_meaning.specs.Constants.{constant_bool}
use Rattle.theory_meaning.specs.Core as core
use Rattle.theory_meaning.specs.Desugar.{core_expr, core_exprs}
use Rattle.theory_meaning.specs.Faults.{has_operands}
use Rattle.theory_meaning.specs.Meaning.{act, both, either, first_some}
use Rattle.theory_meaning.specs.Shape.{is_unit}
use Rattle.theory_meaning.specs.Tree.{Expr, BoolConstant, UnitConstant, And, Or, Coalesce, Exprs, no_exprs, expr}
use Rattle.theory_meaning.proofs.PureTrees.{pure_expr}
use Rattle.theory_rewriting.specs.Context.{Context}
use Rattle.theory_rewriting.specs.Operands.{OperandsTo, in_other_operands, passing_goes, after_deciding_go, pure_before_deciding_goes, CoalesceTo, in_other_options, unit_goes, after_some_go}
use Rattle.theory_soundness.proofs.simulation.Laws.{simulates_alone, simulates_stuck, simulates_either, pure_goes}
use Rattle.theory_soundness.proofs.simulation.Setting.{Setting, world}
use Rattle.theory_soundness.proofs.simulation.Simulation.{Simulates, simulates_trans, simulates_refl, simulates_equal}
use Rattle.theory_soundness.proofs.simulation.Forms.{simulates_bind, simulates_if}
use Rattle.theory_soundness.proofs.rules.Given.{constant_then, constant_both, bool_then, bool_core}
use Rattle.theory_soundness.proofs.rules.Sound.{ExprSound}

-- ---- what they do

-- the operands of `&&` or `||`
abbrev operands : World → Bool → core.Exprs → Act
operands w true es = both w es
operands w false es = either w es

-- how they go on after one
abbrev after_operand : World → Bool → core.Exprs → Value → Act
after_operand w true es v = if_true v (both w es) (give (BoolV false))
after_operand w false es v = if_true v (give (BoolV true)) (either w es)

module _ {k : Context} (c : Setting k) where
  abbrev core_of : Exprs → core.Exprs
  core_of es = core_exprs c.in_loop es

  one_first : (b : Bool) (e : Expr) (es : Exprs) → operands (world c) b (core_of (expr e es)) ≡ (act (world c) (core_expr c.in_loop e) >>= λ v. after_operand (world c) b (core_of es) v)
  one_first true e es = refl
  one_first false e es = refl

  in_rest : (b : Bool) (es es' : Exprs) → Simulates c (operands (world c) b (core_of es)) (operands (world c) b (core_of es')) → (v : Value) → Simulates c (after_operand (world c) b (core_of es) v) (after_operand (world c) b (core_of es') v)
  in_rest true es es' h v = simulates_if v h simulates_refl
  in_rest false es es' h v = simulates_if v simulates_refl h

  -- after a constant
  passes : (b : Bool) (e : Expr) (es : Exprs) → constant_bool e ≡ Some b → Simulates c (operands (world c) b (core_of (expr e es))) (operands (world c) b (core_of es))
  passes true e es h = bool_then c e true _ _ h
  passes false e es h = bool_then c e false _ _ h

  decided : (b : Bool) (e : Expr) (es : Exprs) → constant_bool e ≡ Some (not b) → Simulates c (operands (world c) b (core_of (expr e es))) (give (BoolV (not b)))
  decided true e es h = bool_then c e false _ _ h
  decided false e es h = bool_then c e true _ _ h

  decides : (b : Bool) (e : Expr) (es : Exprs) → constant_bool e ≡ Some (not b) → Simulates c (give (BoolV (not b))) (operands (world c) b (core_of (expr e es)))
  decides true e es h = subst (λ x. Simulates c (give (BoolV false)) (both (world c) (core.expr x (core_of es)))) (sym (bool_core c.in_loop e false h)) (simulates_equal (λ m. refl))
  decides false e es h = subst (λ x. Simulates c (give (BoolV true)) (either (world c) (core.expr x (core_of es)))) (sym (bool_core c.in_loop e true h)) (simulates_equal (λ m. refl))

  -- a pure operand, and one that decides
  before_deciding : (b : Bool) (e f : Expr) (es : Exprs) → constant_bool f ≡ Some (not b) → (v : Value) → Simulates c (after_operand (world c) b (core_of (expr f es)) v) (operands (world c) b (core_of (expr f es)))
  before_deciding true e f es h v = simulates_either v simulates_refl (decides true f es h)
  before_deciding false e f es h v = simulates_either v (decides false f es h) simulates_refl

  operands_sound : (b : Bool) {es es' : Exprs} → OperandsTo b es es' → Simulates c (operands (world c) b (core_of es)) (operands (world c) b (core_of es'))
  operands_sound b (in_other_operands {e = e} {es = es} {es' = es'} p) =
      subst (λ a. Simulates c a (operands (world c) b (core_of (expr e es')))) (sym (one_first b e es))
      (subst (λ a. Simulates c (act (world c) (core_expr c.in_loop e) >>= λ v. after_operand (world c) b (core_of es) v) a) (sym (one_first b e es'))
      (simulates_bind simulates_refl (in_rest b es es' (operands_sound b p))))
  operands_sound b (passing_goes {e = e} {es = es} h) = passes b e es h
  operands_sound b (after_deciding_go {e = e} {f = f} {es = es} h) = simulates_trans (decided b e (expr f es) h) (decides b e no_exprs h)
  operands_sound b (pure_before_deciding_goes {e = e} {f = f} {es = es} h j) =
      subst (λ a. Simulates c a (operands (world c) b (core_of (expr f es)))) (sym (one_first b e (expr f es)))
      (pure_goes _ _ _ (pure_expr (world c) c.in_loop e h) (before_deciding b e f es j))

  -- after a `??` constant that isn't unit
  some_decides : (b : Bool) (v : Value) (a : Act) → b ≡ false → choose b a (give v) ≡ choose b unit (give v)
  some_decides true v a h = absurd (let z : true ≡ false = h in cc)
  some_decides false v a h = refl

  in_options : (b : Bool) (v : Value) {a a' : Act} → Simulates c a a' → Simulates c (choose b a (give v)) (choose b a' (give v))
  in_options true v h = h
  in_options false v h = simulates_refl

  options_sound : {es es' : Exprs} → CoalesceTo es es' → Simulates c (first_some (world c) (core_of es)) (first_some (world c) (core_of es'))
  options_sound (in_other_options p) = simulates_bind simulates_refl (λ v. in_options (is_unit v) v (options_sound p))
  options_sound (unit_goes {e = e} h) = constant_then c e UnitV _ h
  options_sound (after_some_go {e = e} {f = f} {es = es} v h j) =
      constant_both c e v _ _ h (λ env s t i. run (world c) env (some_decides (is_unit v) v (first_some (world c) (core_of (expr f es))) j i) s t)

  -- one alone
  one_bool : (v : Value) (o : Option Bool) → truth v ≡ o → Simulates c (branch o (give (BoolV true)) (give (BoolV false))) (give v)
  one_bool (BoolV true) (Some true) h = simulates_refl
  one_bool (BoolV false) (Some false) h = simulates_refl
  one_bool v None h = simulates_stuck _ (give v)
  one_bool v (Some b) h = absurd (let z : truth v ≡ Some b = h in cc)

  some_or_unit : (v : Value) → Simulates c (choose (is_unit v) unit (give v)) (give v)
  some_or_unit UnitV = simulates_refl
  some_or_unit v = simulates_refl

-- ---- the rules

pub and_changes : {k : Context} {es es' : Exprs} → OperandsTo true es es' → has_operands es' ≡ true → ExprSound k (And es) (And es')
and_changes p q = record {
  sound = λ c. operands_sound c true p;
}

pub or_changes : {k : Context} {es es' : Exprs} → OperandsTo false es es' → has_operands es' ≡ true → ExprSound k (Or es) (Or es')
or_changes p q = record {
  sound = λ c. operands_sound c false p;
}

pub coalesce_changes : {k : Context} {es es' : Exprs} → CoalesceTo es es' → has_operands es' ≡ true → ExprSound k (Coalesce es) (Coalesce es')
coalesce_changes p q = record {
  sound = λ c. options_sound c p;
}

pub and_of_one : {k : Context} {e : Expr} → ExprSound k (And (expr e no_exprs)) e
and_of_one {e = e} = record {
  sound = λ c. simulates_alone (act (world c) (core_expr c.in_loop e)) _ (λ v. one_bool c v (truth v) refl);
}

pub or_of_one : {k : Context} {e : Expr} → ExprSound k (Or (expr e no_exprs)) e
or_of_one {e = e} = record {
  sound = λ c. simulates_alone (act (world c) (core_expr c.in_loop e)) _ (λ v. one_bool c v (truth v) refl);
}

pub coalesce_of_one : {k : Context} {e : Expr} → ExprSound k (Coalesce (expr e no_exprs)) e
coalesce_of_one {e = e} = record {
  sound = λ c. simulates_alone (act (world c) (core_expr c.in_loop e)) _ (some_or_unit c);
}

pub and_of_none : {k : Context} → ExprSound k (And no_exprs) (BoolConstant true)
and_of_none = record {
  sound = λ c. simulates_refl;
}

pub or_of_none : {k : Context} → ExprSound k (Or no_exprs) (BoolConstant false)
or_of_none = record {
  sound = λ c. simulates_refl;
}

pub coalesce_of_none : {k : Context} → ExprSound k (Coalesce no_exprs) UnitConstant
coalesce_of_none = record {
  sound = λ c. simulates_refl;
}
