-- Declared nodes that are none of a kind.
use Rattle.std.proofs.Common.{◌≡◌, false, [], refl}
use Rattle.ast_types.specs.declared.expr.Expr as declared_expr
use Rattle.theory_meaning.specs.Tree.{Expr}
use Rattle.ast_types.proofs.Cases.{ExprCase, dynamic_constant_case, string_constant_case, interpolated_string_case, unit_case}
use Rattle.ast_types.proofs.OtherKinds.{NoText, NoDynamic, NoUnit, NoString}
use Rattle.opt_exprs.specs.Parts.{parts_change, is_text, written, is_empty_part}

pub no_empty_part : {x : declared_expr.Expr} {e : Expr} → ExprCase x e → NoUnit x → NoString x → NoDynamic x → false ≡ is_empty_part e
no_empty_part (unit_case p) u s d = absurd (u p refl)
no_empty_part (string_constant_case t p) u s d = absurd (s t p refl)
no_empty_part (dynamic_constant_case v p) u s d = absurd (d v p refl)
no_empty_part _ u s d = refl

pub no_text : {x : declared_expr.Expr} {e : Expr} → ExprCase x e → NoString x → false ≡ is_text e
no_text (string_constant_case t p) s = absurd (s t p refl)
no_text _ s = refl

pub none_written : {x : declared_expr.Expr} {e : Expr} → ExprCase x e → NoString x → [] ≡ written e
none_written (string_constant_case t p) s = absurd (s t p refl)
none_written _ s = refl

pub none_to_change : {x : declared_expr.Expr} {e : Expr} → ExprCase x e → NoText x → parts_change e ≡ false
none_to_change (interpolated_string_case xs p) n = absurd (n xs p refl)
none_to_change _ n = refl
