-- What becomes of the operands of `&&`, `||` and `??`, and of the parts of an interpolated text: one change at a time.
use Rattle.std.specs.Prelude.{◌≡◌, Bool, true, false, not, [], ◌++◌, Some}
use Rattle.rhai_base.specs.Value.{Text, Value, UnitV, holds_float, text_of}
use Rattle.theory_meaning.specs.Constants.{constant_value, constant_bool}
use Rattle.theory_meaning.specs.Queries.{is_pure_expr}
use Rattle.theory_meaning.specs.Shape.{is_unit}
use Rattle.theory_rewriting.specs.Answering.{is_always}
use Rattle.theory_meaning.specs.Tree.{Expr, StringConstant, And, Exprs, no_exprs, expr}

-- one operand more, behind the others
abbrev pub with_last : Exprs → Expr → Exprs
with_last no_exprs b = expr b no_exprs
with_last (expr e es) b = expr e (with_last es b)

abbrev pub is_and : Expr → Bool
is_and (And es) = true
is_and _ = false

-- the last of some operands is the constant false
abbrev pub ends_false : Exprs → Bool
ends_false no_exprs = false
ends_false (expr e no_exprs) = is_always false e
ends_false (expr e (expr f es)) = ends_false (expr f es)

-- of `&&`, which goes on where an operand is true (b: true), and of `||`, which goes on where it is false
pub data OperandsTo (b : Bool) : Exprs → Exprs → Type 0 where
  in_other_operands : {e : Expr} {es es' : Exprs} → OperandsTo b es es' → OperandsTo b (expr e es) (expr e es')
  -- a constant that goes on
  passing_goes : {e : Expr} {es : Exprs} → constant_bool e ≡ Some b → OperandsTo b (expr e es) es
  -- what stands after a constant that decides
  after_deciding_go : {e f : Expr} {es : Exprs} → constant_bool e ≡ Some (not b) → OperandsTo b (expr e (expr f es)) (expr e no_exprs)
  -- what is pure directly before it
  pure_before_deciding_goes : {e f : Expr} {es : Exprs} → is_pure_expr e ≡ true → constant_bool f ≡ Some (not b) → OperandsTo b (expr e (expr f es)) (expr f es)

pub data CoalesceTo : Exprs → Exprs → Type 0 where
  in_other_options : {e : Expr} {es es' : Exprs} → CoalesceTo es es' → CoalesceTo (expr e es) (expr e es')
  unit_goes : {e : Expr} {es : Exprs} → constant_value e ≡ Some UnitV → CoalesceTo (expr e es) es
  -- what stands after a constant that isn't unit
  after_some_go : {e f : Expr} {es : Exprs} (v : Value) → constant_value e ≡ Some v → is_unit v ≡ false → CoalesceTo (expr e (expr f es)) (expr e no_exprs)

pub data TextTo : Exprs → Exprs → Type 0 where
  in_other_parts : {e : Expr} {es es' : Exprs} → TextTo es es' → TextTo (expr e es) (expr e es')
  texts_join : {t u : Text} {es : Exprs} → TextTo (expr (StringConstant t) (expr (StringConstant u) es)) (expr (StringConstant (t ++ u)) es)
  -- a unit, or an empty text
  empty_goes : {e : Expr} {es : Exprs} (v : Value) → constant_value e ≡ Some v → holds_float v ≡ false → text_of v ≡ [] → TextTo (expr e es) es
