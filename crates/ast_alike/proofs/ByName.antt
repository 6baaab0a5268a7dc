-- Nodes that call functions by names of their own, by cases.
use Rattle.std.proofs.Common.{◌≡◌, ℕ, ◌≤◌, true, false, List, [], ◌∷◌, length, refl, arith}
use Rattle.ast_types.specs.declared.expr.Expr as declared_expr
use Rattle.ast_types.specs.declared.stmt.Stmt as declared_stmt
use Rattle.ast_types.specs.Reading.{expr_of, exprs_of}
use Rattle.ast_types.proofs.Cases.{ExprCase, StmtCase, call_case, call_statement_case, method_call_case, string_constant_case}
use Rattle.ast_types.proofs.OtherKinds.{NoCall, NoCallStatement, NoMethod, NoString}
use Rattle.theory_meaning.specs.Tree.{Expr, Exprs, Stmt, StringConstant, expr, no_exprs}
use Rattle.theory_meaning.specs.Walk.{OfExpr, OfStmt}
use Rattle.theory_naming.specs.Renaming.{calls_by_name, names_one}

pub expr_calls : {x : declared_expr.Expr} {e : Expr} → ExprCase x e → NoMethod x → NoCall x → true ≡ calls_by_name (OfExpr e)
expr_calls (method_call_case f p) a b = absurd (a f p refl)
expr_calls (call_case f p) a b = absurd (b f p refl)
expr_calls _ a b = refl

pub stmt_calls : {x : declared_stmt.Stmt} {s : Stmt} → StmtCase x s → NoCallStatement x → true ≡ calls_by_name (OfStmt s)
stmt_calls (call_statement_case f p) a = absurd (a f p refl)
stmt_calls _ a = refl

pub no_name : {x : declared_expr.Expr} {e : Expr} → ExprCase x e → NoString x → false ≡ names_one (expr e no_exprs)
no_name (string_constant_case t p) a = absurd (a t p refl)
no_name _ a = refl

no_one : (e d : Expr) (es : Exprs) → false ≡ names_one (expr e (expr d es))
no_one (StringConstant t) d es = refl
no_one _ d es = refl

pub several : (l : List declared_expr.Expr) → 2 ≤ length l → false ≡ names_one (exprs_of l)
several [] h = refl
several (x ∷ []) h = absurd (omega arith)
several (x ∷ y ∷ l) h = no_one (expr_of x) (expr_of y) (exprs_of l)
