-- The rules of `&&`, `||` and `??`: a lemma each, of the rule's name.
use Rattle.std.proofs.Common.{◌≡◌, ◌<◌, Bool, true, false, arith}
use Rattle.rhai_base.specs.Value.{UnitV, BoolV}
use Rattle.theory_meaning.specs.Faults.{has_operands}
use Rattle.theory_meaning.specs.Tree.{Expr, BoolConstant, UnitConstant, And, Or, Coalesce, Exprs, no_exprs, expr}
use Rattle.theory_meaning.specs.Walk.{Node, Around, whole, throughout, over_exprs}
use Rattle.theory_meaning.specs.Weight.{exprs_weight}
use Rattle.theory_rewriting.specs.Context.{Context}
use Rattle.theory_rewriting.specs.Operands.{OperandsTo, in_other_operands, passing_goes, after_deciding_go, pure_before_deciding_goes, CoalesceTo, in_other_options, unit_goes, after_some_go}
use Rattle.theory_rewriting.proofs.rules.Given.{heavy}
use Rattle.theory_rewriting.proofs.rules.Lasting.{same_and, same_or, same_coalesce}
use Rattle.theory_rewriting.proofs.rules.Obligation.{ExprObligation}

-- ---- operands fall, and what stays is of them

operands_fall : {b : Bool} {es es' : Exprs} → OperandsTo b es es' → exprs_weight es' < exprs_weight es
operands_fall (in_other_operands p) = omega (arith, operands_fall p)
operands_fall (passing_goes {e = e} h) = omega (arith, heavy e)
operands_fall (after_deciding_go {f = f} h) = omega (arith, heavy f)
operands_fall (pure_before_deciding_goes {e = e} h j) = omega (arith, heavy e)

options_fall : {es es' : Exprs} → CoalesceTo es es' → exprs_weight es' < exprs_weight es
options_fall (in_other_options p) = omega (arith, options_fall p)
options_fall (unit_goes {e = e} h) = omega (arith, heavy e)
options_fall (after_some_go {f = f} v h j) = omega (arith, heavy f)

module _ (P : Around → Node → Type 0) (a : Around) where
  operands_keep : {b : Bool} {es es' : Exprs} → OperandsTo b es es' → over_exprs (throughout P) es a → over_exprs (throughout P) es' a
  operands_keep (in_other_operands p) h = (h.0, operands_keep p h.1)
  operands_keep (passing_goes q) h = h.1
  operands_keep (after_deciding_go q) h = (h.0, tt)
  operands_keep (pure_before_deciding_goes q r) h = h.1

  options_keep : {es es' : Exprs} → CoalesceTo es es' → over_exprs (throughout P) es a → over_exprs (throughout P) es' a
  options_keep (in_other_options p) h = (h.0, options_keep p h.1)
  options_keep (unit_goes q) h = h.1
  options_keep (after_some_go v q r) h = (h.0, tt)

-- ---- the rules

pub and_changes : {k : Context} {es es' : Exprs} → OperandsTo true es es' → has_operands es' ≡ true → ExprObligation k (And es) (And es')
and_changes p q = record {
  lighter = omega (arith, operands_fall p);
  keeps = λ P l lasts h. (lasts.again (same_and q) h.0, operands_keep P (whole l) p h.1);
}

pub or_changes : {k : Context} {es es' : Exprs} → OperandsTo false es es' → has_operands es' ≡ true → ExprObligation k (Or es) (Or es')
or_changes p q = record {
  lighter = omega (arith, operands_fall p);
  keeps = λ P l lasts h. (lasts.again (same_or q) h.0, operands_keep P (whole l) p h.1);
}

pub coalesce_changes : {k : Context} {es es' : Exprs} → CoalesceTo es es' → has_operands es' ≡ true → ExprObligation k (Coalesce es) (Coalesce es')
coalesce_changes p q = record {
  lighter = omega (arith, options_fall p);
  keeps = λ P l lasts h. (lasts.again (same_coalesce q) h.0, options_keep P (whole l) p h.1);
}

pub and_of_one : {k : Context} {e : Expr} → ExprObligation k (And (expr e no_exprs)) e
and_of_one {e = e} = record {
  lighter = omega arith;
  keeps = λ P l lasts h. h.1.0;
}

pub or_of_one : {k : Context} {e : Expr} → ExprObligation k (Or (expr e no_exprs)) e
or_of_one {e = e} = record {
  lighter = omega arith;
  keeps = λ P l lasts h. h.1.0;
}

pub coalesce_of_one : {k : Context} {e : Expr} → ExprObligation k (Coalesce (expr e no_exprs)) e
coalesce_of_one {e = e} = record {
  lighter = omega arith;
  keeps = λ P l lasts h. h.1.0;
}

pub and_of_none : {k : Context} → ExprObligation k (And no_exprs) (BoolConstant true)
and_of_none = record {
  lighter = omega arith;
  keeps = λ P l lasts h. (lasts.value (BoolV true), tt);
}

pub or_of_none : {k : Context} → ExprObligation k (Or no_exprs) (BoolConstant false)
or_of_none = record {
  lighter = omega arith;
  keeps = λ P l lasts h. (lasts.value (BoolV false), tt);
}

pub coalesce_of_none : {k : Context} → ExprObligation k (Coalesce no_exprs) UnitConstant
coalesce_of_none = record {
  lighter = omega arith;
  keeps = λ P l lasts h. (lasts.value UnitV, tt);
}
