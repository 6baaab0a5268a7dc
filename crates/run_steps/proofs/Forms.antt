-- Expressions and tokens by their kind.
use Rattle.std.proofs.Common.{◌≡◌, true, false, Option, Some, None, refl, sym, ap, subst, ◌∙◌}
use Rattle.base_tokens.specs.declared.token.Token.{Token}
use Rattle.base_tokens.specs.declared.token.Token.TheVariants as token
use Rattle.base_tokens.specs.Assignments.{is_no_equals}
use Rattle.base_tokens.specs.Tokens.{base_of}
use Rattle.rhai_base.specs.Builtin.{operator_of}
use Rattle.rhai_base.specs.Operators.{Operator, Plus, Minus, Multiply, Divide, Modulo, Power, ShiftLeft, ShiftRight, BitAnd, BitOr, BitXor}
use Rattle.ast_types.specs.declared.expr.Expr.{Expr}
use Rattle.ast_types.specs.declared.expr.Expr.TheVariants as kind
use Rattle.ast_types.specs.Reading.{expr_of}
use Rattle.ast_types.proofs.Cases.{ExprCase, expr_cases, dynamic_constant_case, bool_constant_case, integer_constant_case, float_constant_case, char_constant_case, string_constant_case, interpolated_string_case, array_case, map_case, unit_case, variable_case, this_ptr_case, property_case, method_call_case, braces_case, call_case, dot_case, index_case, and_case, or_case, coalesce_case}
use Rattle.theory_meaning.specs.Desugar.{root_of}
use Rattle.theory_meaning.specs.Shape.{catch_name}
use Rattle.theory_meaning.specs.Tree as tree
use Rattle.run_steps.specs.Operators.{StandsFor}
use Rattle.ast_types.proofs.OtherKinds.{NoUnit, NoVariable, NoThis}

-- ---- catch names and roots

no_catch : {x : Expr} {t : tree.Expr} → ExprCase x t → NoUnit x → NoVariable x → catch_name t ≡ None
no_catch (unit_case p) h k = absurd (h p refl)
no_catch (variable_case v short p) h k = absurd (k v short p refl)
no_catch (dynamic_constant_case v p) h k = refl
no_catch (bool_constant_case b p) h k = refl
no_catch (integer_constant_case n p) h k = refl
no_catch (float_constant_case y p) h k = refl
no_catch (char_constant_case c p) h k = refl
no_catch (string_constant_case t p) h k = refl
no_catch (interpolated_string_case xs p) h k = refl
no_catch (array_case xs p) h k = refl
no_catch (map_case m p) h k = refl
no_catch (this_ptr_case p) h k = refl
no_catch (property_case x p) h k = refl
no_catch (method_call_case c p) h k = refl
no_catch (braces_case b) h k = refl
no_catch (call_case c p) h k = refl
no_catch (dot_case x f p) h k = refl
no_catch (index_case x f p) h k = refl
no_catch (and_case xs p) h k = refl
no_catch (or_case xs p) h k = refl
no_catch (coalesce_case xs p) h k = refl

pub catch_name-other : (x : Expr) → NoUnit x → NoVariable x → catch_name (expr_of x) ≡ None
catch_name-other x h k = no_catch (expr_cases x) h k

no_root : {x : Expr} {t : tree.Expr} → ExprCase x t → NoVariable x → NoThis x → root_of t ≡ None
no_root (this_ptr_case p) k h = absurd (h p refl)
no_root (variable_case v short p) k h = absurd (k v short p refl)
no_root (unit_case p) k h = refl
no_root (dynamic_constant_case v p) k h = refl
no_root (bool_constant_case b p) k h = refl
no_root (integer_constant_case n p) k h = refl
no_root (float_constant_case y p) k h = refl
no_root (char_constant_case c p) k h = refl
no_root (string_constant_case t p) k h = refl
no_root (interpolated_string_case xs p) k h = refl
no_root (array_case xs p) k h = refl
no_root (map_case m p) k h = refl
no_root (property_case x p) k h = refl
no_root (method_call_case c p) k h = refl
no_root (braces_case b) k h = refl
no_root (call_case c p) k h = refl
no_root (dot_case x f p) k h = refl
no_root (index_case x f p) k h = refl
no_root (and_case xs p) k h = refl
no_root (or_case xs p) k h = refl
no_root (coalesce_case xs p) k h = refl

pub root_of-other : (x : Expr) → NoVariable x → NoThis x → root_of (expr_of x) ≡ None
root_of-other x k h = no_root (expr_cases x) k h

-- ---- operators of assignments

straight : (t : Token) → is_no_equals t ≡ false → operator_of t ≡ None
straight token.Equals h = refl
straight _ h = absurd (let z : true ≡ false = h in cc)

abbrev Applied : Option Token → Type 0
Applied None = Unit {0}
Applied (Some t) = (p : Operator) × (operator_of t ≡ Some p)

applied : (form : Token) → Applied (base_of form)
applied token.PlusAssign = (Plus, refl)
applied token.MinusAssign = (Minus, refl)
applied token.MultiplyAssign = (Multiply, refl)
applied token.DivideAssign = (Divide, refl)
applied token.ModuloAssign = (Modulo, refl)
applied token.PowerOfAssign = (Power, refl)
applied token.LeftShiftAssign = (ShiftLeft, refl)
applied token.RightShiftAssign = (ShiftRight, refl)
applied token.AndAssign = (BitAnd, refl)
applied token.OrAssign = (BitOr, refl)
applied token.XOrAssign = (BitXor, refl)
applied _ = tt

-- an assignment's operator
pub stands_for_applied : (form t u : Token) → base_of form ≡ Some t → t ≡ u → StandsFor (Some t) (operator_of u)
stands_for_applied form t u h e =
    let one = subst Applied h (applied form) in
    (one.0, one.1, sym one.1 ∙ ap operator_of e)
