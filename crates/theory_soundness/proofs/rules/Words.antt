-- The rules of the language's own functions over constants: a lemma each, of the rule's name.
use Rattle.std.proofs.Common.{◌≡◌, Bool, true, false, List, [], ◌∷◌, ◌++◌, Some, sym, subst}
use Rattle.std.specs.Prelude.{codes}
use Rattle.rhai_base.specs.Value.{Text, Value, TextV, PointerV, Values, values, items}
use Rattle.base_tokens.specs.Names.{is_valid_name}
use Rattle.theory_meaning.specs.Act.{Act}
use Rattle.theory_meaning.specs.ActForms.{give, throw, choose}
use Rattle.theory_meaning.specs.Calls.{called}
use Rattle.theory_meaning.specs.Constants.{constant_value, constant_values}
use Rattle.theory_meaning.specs.Core as core
use Rattle.theory_meaning.specs.Desugar.{core_expr, core_exprs}
use Rattle.theory_meaning.specs.Engine.{mapped_type_name}
use Rattle.theory_meaning.specs.Meaning.{act, with_args}
use Rattle.theory_meaning.specs.Shape.{is_callable}
use Rattle.theory_meaning.specs.Tree.{Expr, DynamicConstant, BoolConstant, StringConstant, FnCall, Exprs, no_exprs, expr, count_exprs}
use Rattle.theory_rewriting.specs.Context.{Context}
use Rattle.theory_rewriting.specs.Parts.{named}
use Rattle.theory_soundness.proofs.simulation.Setting.{Setting, world}
use Rattle.theory_soundness.proofs.simulation.Simulation.{Simulates, simulates_trans, simulates_refl}
use Rattle.theory_soundness.proofs.rules.Given.{constant_then, constants_give, expr_meant}
use Rattle.theory_soundness.proofs.rules.Sound.{ExprSound}

module _ {k : Context} (c : Setting k) where
  -- a call by name whose first argument is constant
  called_over : (f : Text) (captures : Bool) (e : Expr) (es : Exprs) (v : Value) (a : Act) → constant_value e ≡ Some v → Simulates c (with_args (world c) (core_exprs c.in_loop es) (λ vs. called (world c) (core.ByName f captures) (v ∷ vs))) a → Simulates c (act (world c) (core_expr c.in_loop (FnCall (named f captures) (expr e es)))) a
  called_over f captures e es v a h j =
      expr_meant (is_callable (named f captures) (count_exprs (expr e es))) (core.FnCall (core.ByName f captures) (core_exprs c.in_loop (expr e es)))
      (simulates_trans (constant_then c e v (λ u. with_args (world c) (core_exprs c.in_loop es) (λ us. called (world c) (core.ByName f captures) (u ∷ us))) h) j)

pub type_of_folds : {k : Context} {captures : Bool} {e : Expr} (v : Value) → constant_value e ≡ Some v → ExprSound k (FnCall (named (codes "type_of") captures) (expr e no_exprs)) (StringConstant (mapped_type_name k.engine v))
type_of_folds {k = k} {captures = captures} {e = e} v h = record {
  sound = λ c. called_over c (codes "type_of") captures e no_exprs v _ h simulates_refl;
}

pub is_shared_folds : {k : Context} {captures : Bool} {e : Expr} (v : Value) → constant_value e ≡ Some v → ExprSound k (FnCall (named (codes "is_shared") captures) (expr e no_exprs)) (BoolConstant false)
is_shared_folds {captures = captures} {e = e} v h = record {
  sound = λ c. called_over c (codes "is_shared") captures e no_exprs v _ h simulates_refl;
}

pub fn_folds : {k : Context} {captures : Bool} {e : Expr} (f : Text) → constant_value e ≡ Some (TextV f) → is_valid_name f ≡ true → ExprSound k (FnCall (named (codes "Fn") captures) (expr e no_exprs)) (DynamicConstant (PointerV f (values [])))
fn_folds {captures = captures} {e = e} f h valid = record {
  sound = λ c. called_over c (codes "Fn") captures e no_exprs (TextV f) _ h
      (subst (λ b. Simulates c (choose b (give (PointerV f (values []))) (throw (codes "function name"))) (give (PointerV f (values [])))) (sym valid) simulates_refl);
}

pub curry_folds : {k : Context} {captures : Bool} {e : Expr} {es : Exprs} (f : Text) (us : Values) (vs : List Value) → constant_value e ≡ Some (PointerV f us) → constant_values es ≡ Some vs → ExprSound k (FnCall (named (codes "curry") captures) (expr e es)) (DynamicConstant (PointerV f (values (items us ++ vs))))
curry_folds {captures = captures} {e = e} {es = es} f us vs h q = record {
  sound = λ c. called_over c (codes "curry") captures e es (PointerV f us) _ h (constants_give c es vs (λ xs. called (world c) (core.ByName (codes "curry") captures) (PointerV f us ∷ xs)) q);
}
