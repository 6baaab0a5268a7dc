-- The last of some operands.
use Rattle.std.proofs.Common.{◌≡◌, Bool, false, List, [], ◌∷◌, ◌++◌, refl, sym, ap, ◌∙◌}
use Rattle.ast_types.specs.declared.expr.Expr as declared_expr
use Rattle.theory_meaning.specs.Tree.{expr}
use Rattle.ast_types.specs.Reading.{expr_of, exprs_of}
use Rattle.theory_rewriting.specs.Answering.{is_always}
use Rattle.theory_rewriting.specs.Operands.{with_last, ends_false}

ends-last : (front : List declared_expr.Expr) (x : declared_expr.Expr) → is_always false (expr_of x) ≡ ends_false (exprs_of (front ++ x ∷ []))
ends-last [] x = refl
ends-last (y ∷ []) x = refl
ends-last (y ∷ z ∷ front) x = ends-last (z ∷ front) x

pub ends_by : (l front : List declared_expr.Expr) (x : declared_expr.Expr) (b : Bool) → l ≡ front ++ x ∷ [] → b ≡ is_always false (expr_of x) → b ≡ ends_false (exprs_of l)
ends_by l front x b i h = h ∙ ends-last front x ∙ ap (λ (k : List declared_expr.Expr). ends_false (exprs_of k)) (sym i)

pub pushed : (xs : List declared_expr.Expr) (x : declared_expr.Expr) → exprs_of (xs ++ x ∷ []) ≡ with_last (exprs_of xs) (expr_of x)
pushed [] x = refl
pushed (y ∷ xs) x = ap (expr (expr_of y)) (pushed xs x)
