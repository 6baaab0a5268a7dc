-- All other expressions, where a match names some.
use Rattle.std.proofs.Common.{◌≡◌, false, refl}
use Rattle.base_tokens.specs.declared.token.Token.{Token}
use Rattle.ast_types.specs.declared.expr.Expr as declared_expr
use Rattle.theory_meaning.specs.Queries.{is_unit, may_follow}
use Rattle.theory_meaning.specs.Tree.{Expr}
use Rattle.ast_types.proofs.Cases.{ExprCase, property_case, unit_case, variable_case}
use Rattle.ast_types.proofs.OtherKinds.{NoUnit, NoVariable, NoProperty}

pub no_unit : {x : declared_expr.Expr} {e : Expr} → ExprCase x e → NoUnit x → false ≡ is_unit e
no_unit (unit_case p) u = absurd (u p refl)
no_unit _ u = refl

pub none_follows : {x : declared_expr.Expr} {e : Expr} (t : Token) → ExprCase x e
    → NoVariable x
    → NoProperty x
    → false ≡ may_follow t e
none_follows t (variable_case v short p) a b = absurd (a v short p refl)
none_follows t (property_case n p) a b = absurd (b n p refl)
none_follows t _ a b = refl
