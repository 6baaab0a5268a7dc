-- All other expressions, where a match names some.
use Rattle.std.proofs.Common.{◌≡◌, None, refl}
use Rattle.ast_types.specs.declared.expr.Expr as declared_expr
use Rattle.theory_meaning.specs.Constants.{call_value, pointer_literal, range_end}
use Rattle.theory_meaning.specs.Tree.{Expr}
use Rattle.ast_types.proofs.Cases.{ExprCase, call_case, integer_constant_case, string_constant_case, unit_case}
use Rattle.ast_types.proofs.OtherKinds.{NoCall, NoString, NoInteger, NoUnit}

pub no_call : {x : declared_expr.Expr} {e : Expr} → ExprCase x e → NoCall x → None ≡ call_value e
no_call (call_case c p) f = absurd (f c p refl)
no_call _ f = refl

pub no_pointer : {x : declared_expr.Expr} {e : Expr} → ExprCase x e → NoString x → None ≡ pointer_literal e
no_pointer (string_constant_case t p) f = absurd (f t p refl)
no_pointer _ f = refl

pub no_end : {x : declared_expr.Expr} {e : Expr} → ExprCase x e
    → NoInteger x → NoUnit x
    → None ≡ range_end e
no_end (integer_constant_case n p) f g = absurd (f n p refl)
no_end (unit_case p) f g = absurd (g p refl)
no_end _ f g = refl
