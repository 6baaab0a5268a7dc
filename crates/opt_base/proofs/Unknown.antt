-- What is known of a name by its namespace, and of nothing else.
use Rattle.std.proofs.Common.{◌≡◌, ◌<◌, ◌≤◌, Bool, true, false, List, [], ◌∷◌, map, length, get_or, Option, None, refl, sym, ap, ◌∙◌, arith}
use Rattle.base_tokens.specs.declared.ident.Ident.{Ident}
use Rattle.rhai_base.specs.Value.{Text, Value}
use Rattle.theory_meaning.specs.Tree.{Expr}
use Rattle.theory_rewriting.specs.Clear.{known_value}
use Rattle.theory_rewriting.specs.Known.{Known, look, look_global, known_at}
use Rattle.ast_types.specs.declared.expr.Expr as declared_expr
use Rattle.ast_types.proofs.Cases.{ExprCase, variable_case}
use Rattle.ast_types.proofs.OtherKinds.{NoVariable}

pub no_known_value : (ks : List Known) {x : declared_expr.Expr} {e : Expr} → ExprCase x e → NoVariable x → None ≡ known_value ks e
no_known_value ks (variable_case v i p) f = absurd (f v i p refl)
no_known_value ks _ f = refl

module _ (ks : List Known) (x : Text) where
  abbrev at : List Ident → Option Value
  at is = known_at ks (map (λ i. i.name) is) x

  pub no_module : (is : List Ident) → length is < 1 → look ks x ≡ at is
  no_module [] h = refl
  no_module (i ∷ is) h = absurd (omega (arith, h))
