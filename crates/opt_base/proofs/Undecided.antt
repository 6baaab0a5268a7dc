-- Constants other than a bool decide nothing, nor does what is none.
use Rattle.std.proofs.Common.{◌≡◌, List, Option, Some, None, refl}
use Rattle.rhai_base.specs.Value.{Text, Value}
use Rattle.theory_meaning.specs.Constants.{array_value, constant_bool, joined_value, map_value, truth_of}
use Rattle.theory_meaning.specs.Tree.{Expr}
use Rattle.ast_types.specs.declared.expr.Expr as declared_expr
use Rattle.ast_types.proofs.Cases.{ExprCase, dynamic_constant_case, bool_constant_case, interpolated_string_case, array_case, map_case}
use Rattle.ast_types.proofs.OtherKinds.{NoBool, NoDynamic}

no_array : (vs : Option (List Value)) → None ≡ truth_of (array_value vs)
no_array None = refl
no_array (Some vs) = refl

no_text : (vs : Option (List Value)) → None ≡ truth_of (joined_value vs)
no_text None = refl
no_text (Some vs) = refl

no_map : (vs : Option (List (Text × Value))) → None ≡ truth_of (map_value vs)
no_map None = refl
no_map (Some vs) = refl

pub undecided : {x : declared_expr.Expr} {e : Expr} → ExprCase x e → NoBool x → NoDynamic x → None ≡ constant_bool e
undecided (bool_constant_case t p) b d = absurd (b t p refl)
undecided (dynamic_constant_case v p) b d = absurd (d v p refl)
undecided (interpolated_string_case xs p) b d = no_text _
undecided (array_case xs p) b d = no_array _
undecided (map_case m p) b d = no_map _
undecided _ b d = refl
