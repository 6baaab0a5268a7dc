-- What is no place.
use Rattle.std.proofs.Common.{◌≡◌, false, refl}
use Rattle.ast_types.specs.declared.expr.Expr as declared_expr
use Rattle.theory_meaning.specs.Tree.{Expr}
use Rattle.ast_types.proofs.Cases.{ExprCase, variable_case, this_ptr_case}
use Rattle.ast_types.proofs.OtherKinds.{NoVariable, NoThis}
use Rattle.opt_base.specs.Standing.{is_root}

pub no_root : {x : declared_expr.Expr} {e : Expr} → ExprCase x e → NoVariable x → NoThis x → false ≡ is_root e
no_root (variable_case v i p) f g = absurd (f v i p refl)
no_root (this_ptr_case p) f g = absurd (g p refl)
no_root _ f g = refl
