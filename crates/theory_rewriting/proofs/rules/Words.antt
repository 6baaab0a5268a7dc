-- The rules of the language's own functions over constants: a lemma each, of the rule's name.
use Rattle.std.proofs.Common.{◌≡◌, Bool, true, false, List, [], ◌++◌, Some, arith}
use Rattle.std.specs.Prelude.{codes}
use Rattle.rhai_base.specs.Value.{Text, Value, BoolV, TextV, PointerV, Values, values, items}
use Rattle.base_tokens.specs.Names.{is_valid_name}
use Rattle.theory_meaning.specs.Constants.{constant_value, constant_values}
use Rattle.theory_meaning.specs.Engine.{mapped_type_name}
use Rattle.theory_meaning.specs.Tree.{Expr, DynamicConstant, BoolConstant, StringConstant, FnCall, Exprs, no_exprs, expr}
use Rattle.theory_rewriting.specs.Context.{Context}
use Rattle.theory_rewriting.specs.Parts.{named}
use Rattle.theory_rewriting.proofs.rules.Obligation.{ExprObligation}

pub type_of_folds : {k : Context} {captures : Bool} {e : Expr} (v : Value) → constant_value e ≡ Some v → ExprObligation k (FnCall (named (codes "type_of") captures) (expr e no_exprs)) (StringConstant (mapped_type_name k.engine v))
type_of_folds {k = k} {captures = captures} {e = e} v h = record {
  lighter = omega arith;
  keeps = λ P l lasts j. (lasts.value (TextV (mapped_type_name k.engine v)), tt);
}

pub is_shared_folds : {k : Context} {captures : Bool} {e : Expr} (v : Value) → constant_value e ≡ Some v → ExprObligation k (FnCall (named (codes "is_shared") captures) (expr e no_exprs)) (BoolConstant false)
is_shared_folds {captures = captures} {e = e} v h = record {
  lighter = omega arith;
  keeps = λ P l lasts j. (lasts.value (BoolV false), tt);
}

pub fn_folds : {k : Context} {captures : Bool} {e : Expr} (f : Text) → constant_value e ≡ Some (TextV f) → is_valid_name f ≡ true → ExprObligation k (FnCall (named (codes "Fn") captures) (expr e no_exprs)) (DynamicConstant (PointerV f (values [])))
fn_folds {captures = captures} {e = e} f h valid = record {
  lighter = omega arith;
  keeps = λ P l lasts j. (lasts.value (PointerV f (values [])), tt);
}

pub curry_folds : {k : Context} {captures : Bool} {e : Expr} {es : Exprs} (f : Text) (us : Values) (vs : List Value) → constant_value e ≡ Some (PointerV f us) → constant_values es ≡ Some vs → ExprObligation k (FnCall (named (codes "curry") captures) (expr e es)) (DynamicConstant (PointerV f (values (items us ++ vs))))
curry_folds {captures = captures} {e = e} {es = es} f us vs h q = record {
  lighter = omega arith;
  keeps = λ P l lasts j. (lasts.value (PointerV f (values (items us ++ vs))), tt);
}
