-- Where no `if` tests a name that is known, none tests a `const` of its list; and where that is so.
use Rattle.std.proofs.Common.{◌≡◌, Bool, true, false, ◌&&◌, not, List, [], Some, None, refl, sym, ap, ◌∙◌}
use Rattle.rhai_base.specs.Value.{Text, Value, same_text}
use Rattle.theory_meaning.specs.Constants.{constant_value, is_constant}
use Rattle.theory_meaning.specs.Queries.{is_pure_expr, are_pure_exprs, is_pure, are_pure, is_internally_pure_expr, is_internally_pure, are_internally_pure}
use Rattle.theory_meaning.specs.Tree.{Expr, Variable, BlockExpr, And, Or, Coalesce, Exprs, no_exprs, expr, Stmt, If, Var, Block, ExprStmt, Stmts, no_stmts, stmt}
use Rattle.theory_rewriting.specs.Clear.{IsClearExpr, AreClearExprs, IsClear, AreClear}
use Rattle.theory_rewriting.specs.Context.{known_behind}
use Rattle.theory_rewriting.specs.Evals.{keeps_names}
use Rattle.theory_rewriting.specs.Known.{Known, look}
use Rattle.theory_rewriting.specs.Residue.{when}
use Rattle.theory_rewriting.specs.Testing.{tests_name, tests_constant}
use Rattle.theory_rewriting.proofs.rules.Equality.{text_is}
use Rattle.theory_rewriting.proofs.Reducing.{all_of, one_of, still_known, declared, noted_there, unlike}

no : {A : Type 0} → false ≡ true → A
no h = absurd (let z : false ≡ true = h in cc)

none_is_some : (v : Value) → None ≡ Some v → ⊥
none_is_some v h = cc

-- what is claimed of what stands behind a statement
pub claimed : {b : Bool} {p : Type 0} → b ≡ true → when b p → p
claimed {b = true} h c = c
claimed {b = false} h c = no h

pub unclaimed : (b : Bool) {p : Type 0} → p → when b p
unclaimed true c = c
unclaimed false c = tt

pub within : (b : Bool) {p q : Type 0} → (p → q) → when b p → when b q
within true f c = f c
within false f c = tt

pub not_claimed : (b : Bool) (p : Type 0) → b ≡ false → when b p
not_claimed true p h = absurd (let z : true ≡ false = h in cc)
not_claimed false p h = tt

tests_unknown : (x : Text) (v : Value) (ss : Stmts) (ks : List Known) → tests_name x ss ≡ true → look ks x ≡ Some v → AreClear ks ss → ⊥
tests_unknown x v no_stmts ks h q c = no h
tests_unknown x v (stmt (Var t o y e) ss) ks h q c =
    all_of (keeps_names (Var t o y e)) _ h (λ f g.
    all_of (not (same_text y x)) (tests_name x ss) g (λ a b. tests_unknown x v ss _ b (still_known t o y x e ks v (unlike (same_text y x) a) q) (claimed f c.1)))
tests_unknown x v (stmt (If (Variable [] y) a b) ss) ks h q c =
    one_of (same_text x y) _ h
    (λ z. none_is_some v (sym c.0.0 ∙ ap (look ks) (sym (text_is x y z)) ∙ q))
    (λ z. all_of (keeps_names (If (Variable [] y) a b)) _ z (λ f g. tests_unknown x v ss ks g q (claimed f c.1)))
tests_unknown x v (stmt s ss) ks h q c = all_of (keeps_names s) _ h (λ f g. tests_unknown x v ss ks g q (claimed f c.1))

tests_none : (ss : Stmts) (ks : List Known) → tests_constant ss ≡ true → AreClear ks ss → ⊥
tests_none no_stmts ks h c = no h
tests_none (stmt (Var true o x e) ss) ks h c =
    all_of (keeps_names (Var true o x e)) _ h (λ f g.
    one_of (is_constant e && tests_name x ss) (tests_constant ss) g
    (λ z. all_of (is_constant e) (tests_name x ss) z (λ a b.
    let y = declared (constant_value e) a in tests_unknown x y.0 ss _ b (noted_there x (constant_value e) y.0 ks y.1) (claimed f c.1)))
    (λ z. tests_none ss _ z (claimed f c.1)))
tests_none (stmt s ss) ks h c = all_of (keeps_names s) _ h (λ f g. tests_none ss _ g (claimed f c.1))

unless_true : (b : Bool) → (b ≡ true → ⊥) → b ≡ false
unless_true true h = absurd (h refl)
unless_true false h = refl

pub clear_tests : (ks : List Known) (ss : Stmts) → AreClear ks ss → tests_constant ss ≡ false
clear_tests ks ss c = unless_true (tests_constant ss) (λ h. tests_none ss ks h c)

-- ---- what is pure tests no name, whatever is known

both : (a b : Bool) → a && b ≡ true → (a ≡ true) × (b ≡ true)
both true b h = (refl, h)
both false b h = no h

mutual
  pure_expr_clear : (ks : List Known) (e : Expr) → is_pure_expr e ≡ true → IsClearExpr ks e
  pure_expr_clear ks (Variable ns x) h = no h
  pure_expr_clear ks (BlockExpr ss) h = all_pure_clear ks ss h
  pure_expr_clear ks (And es) h = pure_exprs_clear ks es h
  pure_expr_clear ks (Or es) h = pure_exprs_clear ks es h
  pure_expr_clear ks (Coalesce es) h = pure_exprs_clear ks es h
  pure_expr_clear ks _ h = tt

  pure_exprs_clear : (ks : List Known) (es : Exprs) → are_pure_exprs es ≡ true → AreClearExprs ks es
  pure_exprs_clear ks no_exprs h = tt
  pure_exprs_clear ks (expr e es) h = let z = both (is_pure_expr e) _ h in (pure_expr_clear ks e z.0, pure_exprs_clear ks es z.1)

  pure_stmt_clear : (ks : List Known) (s : Stmt) → is_pure s ≡ true → IsClear ks s
  pure_stmt_clear ks (If e a b) h =
      let z = both (is_pure_expr e) _ h in
      let y = both (are_pure a) _ z.1 in
      (pure_expr_clear ks e z.0, (all_pure_clear ks a y.0, all_pure_clear ks b y.1))
  pure_stmt_clear ks (Block ss) h = all_pure_clear ks ss h
  pure_stmt_clear ks (ExprStmt e) h = pure_expr_clear ks e h
  pure_stmt_clear ks _ h = tt

  all_pure_clear : (ks : List Known) (ss : Stmts) → are_pure ss ≡ true → AreClear ks ss
  all_pure_clear ks no_stmts h = tt
  all_pure_clear ks (stmt s ss) h = let z = both (is_pure s) _ h in (pure_stmt_clear ks s z.0, unclaimed (keeps_names s) (all_pure_clear (known_behind s ks) ss z.1))

mutual
  inside_expr_clear : (ks : List Known) (e : Expr) → is_internally_pure_expr e ≡ true → IsClearExpr ks e
  inside_expr_clear ks (BlockExpr ss) h = pure_clear ks ss h
  inside_expr_clear ks (Variable ns x) h = no h
  inside_expr_clear ks (And es) h = pure_exprs_clear ks es h
  inside_expr_clear ks (Or es) h = pure_exprs_clear ks es h
  inside_expr_clear ks (Coalesce es) h = pure_exprs_clear ks es h
  inside_expr_clear ks _ h = tt

  inside_clear : (ks : List Known) (s : Stmt) → is_internally_pure s ≡ true → IsClear ks s
  inside_clear ks (If e a b) h = pure_stmt_clear ks (If e a b) h
  inside_clear ks (Block ss) h = all_pure_clear ks ss h
  inside_clear ks (ExprStmt e) h = inside_expr_clear ks e h
  inside_clear ks _ h = tt

  -- pure inside a list
  pub pure_clear : (ks : List Known) (ss : Stmts) → are_internally_pure ss ≡ true → AreClear ks ss
  pure_clear ks no_stmts h = tt
  pure_clear ks (stmt s ss) h = let z = both (is_internally_pure s) _ h in (inside_clear ks s z.0, unclaimed (keeps_names s) (pure_clear (known_behind s ks) ss z.1))
