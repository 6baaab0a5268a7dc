-- Arguments of calls, by the values of constants.
use Rattle.std.proofs.Common.{◌≡◌, ◌<◌, ◌≤◌, List, [], ◌∷◌, length, Option, Some, None, refl, ap, ◌∙◌, arith}
use Rattle.rhai_base.specs.Value.{Value}
use Rattle.theory_meaning.specs.Constants.{constant_value, constant_values, value_and}
use Rattle.theory_meaning.specs.Tree.{Expr, Exprs, no_exprs, expr}
use Rattle.ast_types.specs.Reading.{expr_of, exprs_of}
use Rattle.ast_types.specs.declared.expr.Expr as declared_expr
use Rattle.opt_exprs.specs.Words.{only}

-- ---- of declared arguments

pub only-one : (o : Option Value) → o ≡ only (value_and o (Some []))
only-one None = refl
only-one (Some v) = refl

only-two : (a b : Option Value) (vs : Option (List Value)) → None ≡ only (value_and a (value_and b vs))
only-two None b vs = refl
only-two (Some a) None vs = refl
only-two (Some a) (Some b) None = refl
only-two (Some a) (Some b) (Some vs) = refl

pub only-few : (l : List declared_expr.Expr) → length l < 1 → None ≡ only (constant_values (exprs_of l))
only-few [] h = refl
only-few (e ∷ l) h = absurd (omega arith)

pub only-many : (l : List declared_expr.Expr) → 2 ≤ length l → None ≡ only (constant_values (exprs_of l))
only-many [] h = absurd (omega arith)
only-many (a ∷ []) h = absurd (omega arith)
only-many (a ∷ b ∷ l) h = only-two (constant_value (expr_of a)) (constant_value (expr_of b)) (constant_values (exprs_of l))

-- ---- which arguments have these values

pub record First (es : Exprs) (v : Value) (vs : List Value) : Type 0 where
  pub first : Expr
  pub rest : Exprs
  pub is : es ≡ expr first rest
  pub value : constant_value first ≡ Some v
  pub values : constant_values rest ≡ Some vs

pub first_of : (es : Exprs) (v : Value) (vs : List Value) → constant_values es ≡ Some (v ∷ vs) → First es v vs
first_of no_exprs v vs h = absurd cc
first_of (expr e es) v vs h = by (constant_value e) (constant_values es) refl refl h where
  by : (o : Option Value) (os : Option (List Value)) → constant_value e ≡ o → constant_values es ≡ os → value_and o os ≡ Some (v ∷ vs) → First (expr e es) v vs
  by (Some u) (Some us) p q k = record { first = e; rest = es; is = refl; value = cc; values = cc }
  by _ _ p q k = absurd cc

none_of : (es : Exprs) → constant_values es ≡ Some [] → es ≡ no_exprs
none_of no_exprs h = refl
none_of (expr e es) h = by (constant_value e) (constant_values es) h where
  by : (o : Option Value) (os : Option (List Value)) → value_and o os ≡ Some [] → expr e es ≡ no_exprs
  by (Some u) (Some us) k = absurd cc
  by _ _ k = absurd cc

only-is : (o : Option (List Value)) (v : Value) → only o ≡ Some v → o ≡ Some (v ∷ [])
only-is (Some (u ∷ [])) v h = cc
only-is _ v h = absurd cc

pub record Alone (es : Exprs) (v : Value) : Type 0 where
  pub first : Expr
  pub is : es ≡ expr first no_exprs
  pub value : constant_value first ≡ Some v

pub alone : (es : Exprs) (v : Value) → only (constant_values es) ≡ Some v → Alone es v
alone es v h =
    let f = first_of es v [] (only-is (constant_values es) v h) in
    record { first = f.first; is = f.is ∙ ap (λ xs. expr f.first xs) (none_of f.rest f.values); value = f.value }
