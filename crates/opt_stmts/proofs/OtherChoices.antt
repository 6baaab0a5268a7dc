-- All other nodes, where a match names some.
use Rattle.std.proofs.Common.{◌≡◌, true, false, refl}
use Rattle.ast_types.specs.declared.expr.Expr as declared_expr
use Rattle.ast_types.specs.declared.stmt.Stmt as declared_stmt
use Rattle.theory_meaning.specs.Tree.{Expr, Stmt}
use Rattle.ast_types.proofs.Cases.{ExprCase, and_case, StmtCase, if_case}
use Rattle.theory_rewriting.specs.Operands.{is_and}
use Rattle.ast_types.proofs.OtherKinds.{NoAnd, NoIf}
use Rattle.opt_stmts.specs.SettledChoices.{is_if, is_settled, goes_on, is_bare_if}

-- ---- an `if`

pub no_if : {x : declared_stmt.Stmt} {s : Stmt} → StmtCase x s → NoIf x → false ≡ is_if s
no_if (if_case f p) h = absurd (h f p refl)
no_if _ h = refl

pub stays : {x : declared_stmt.Stmt} {s : Stmt} → StmtCase x s → NoIf x → true ≡ is_settled s
stays (if_case f p) h = absurd (h f p refl)
stays _ h = refl

-- ---- an `if` alone in an `if`

pub no_operands : {x : declared_expr.Expr} {e : Expr} → ExprCase x e → NoAnd x → true ≡ goes_on e
no_operands (and_case es p) h = absurd (h es p refl)
no_operands _ h = refl

pub not_and : {x : declared_expr.Expr} {e : Expr} → ExprCase x e → NoAnd x → false ≡ is_and e
not_and (and_case es p) h = absurd (h es p refl)
not_and _ h = refl

pub no_bare_if : {x : declared_stmt.Stmt} {s : Stmt} → StmtCase x s → NoIf x → false ≡ is_bare_if s
no_bare_if (if_case f p) h = absurd (h f p refl)
no_bare_if _ h = refl
