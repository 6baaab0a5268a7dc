-- Declared nodes that are none of a kind, and what is asked of values.
use Rattle.std.proofs.Common.{◌≡◌, false, not, ◌&&◌, List, Option, Some, None, is_some, refl}
use Rattle.rhai_base.specs.Value.{Text, Value}
use Rattle.ast_types.specs.declared.expr.Expr as declared_expr
use Rattle.theory_meaning.specs.Constants.{constant_value, constant_values, constant_entries, array_value, map_value, joined_value, text_constants}
use Rattle.theory_meaning.specs.Tree.{Expr}
use Rattle.ast_types.specs.Reading.{exprs_of, pairs_of}
use Rattle.ast_types.proofs.Cases.{ExprCase, dynamic_constant_case, interpolated_string_case, array_case, map_case, unit_case, and_case, or_case, coalesce_case}
use Rattle.theory_rewriting.specs.Answering.{is_some_value}
use Rattle.ast_types.proofs.OtherKinds.{NoAnd, NoOr, NoCoalesce, NoDynamic, NoUnit}
use Rattle.opt_exprs.specs.Operands.{has_operation, is_unit_value}

array_no_unit : (o : Option (List Value)) → false ≡ is_unit_value (array_value o)
array_no_unit None = refl
array_no_unit (Some vs) = refl

text_no_unit : (o : Option (List Value)) → false ≡ is_unit_value (joined_value o)
text_no_unit None = refl
text_no_unit (Some vs) = refl

map_no_unit : (o : Option (List (Text × Value))) → false ≡ is_unit_value (map_value o)
map_no_unit None = refl
map_no_unit (Some vs) = refl

pub no_constant_unit : {x : declared_expr.Expr} {e : Expr} → ExprCase x e → NoUnit x → NoDynamic x → false ≡ is_unit_value (constant_value e)
no_constant_unit (dynamic_constant_case v p) u d = absurd (d v p refl)
no_constant_unit (unit_case p) u d = absurd (u p refl)
no_constant_unit (interpolated_string_case xs p) u d = text_no_unit (text_constants (exprs_of xs))
no_constant_unit (array_case xs p) u d = array_no_unit (constant_values (exprs_of xs))
no_constant_unit (map_case m p) u d = map_no_unit (constant_entries (pairs_of m.0))
no_constant_unit _ u d = refl

pub some_value : (o : Option Value) → is_some o && not (is_unit_value o) ≡ is_some_value o
some_value None = refl
some_value (Some v) = refl

pub no_operation : {x : declared_expr.Expr} {e : Expr} → ExprCase x e → NoAnd x → NoOr x → NoCoalesce x → false ≡ has_operation e
no_operation (and_case xs p) h i j = absurd (h xs p refl)
no_operation (or_case xs p) h i j = absurd (i xs p refl)
no_operation (coalesce_case xs p) h i j = absurd (j xs p refl)
no_operation _ h i j = refl
