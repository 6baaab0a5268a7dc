-- All other nodes, where a match names some.
use Rattle.std.proofs.Common.{◌≡◌, true, false, refl}
use Rattle.ast_types.specs.declared.expr.Expr as declared_expr
use Rattle.ast_types.specs.declared.stmt.Stmt as declared_stmt
use Rattle.theory_meaning.specs.Tree.{Expr, Stmt}
use Rattle.theory_meaning.specs.Walk.{OfExpr, OfStmt}
use Rattle.ast_types.proofs.Cases.{ExprCase, StmtCase, call_case, call_statement_case, noop_case, while_case, do_case, for_case, var_case, assignment_case, try_catch_case, break_loop_case, export_case}
use Rattle.theory_rewriting.specs.Evals.{is_no_eval}
use Rattle.theory_rewriting.specs.Scripts.{is_capturing}
use Rattle.theory_rewriting.specs.SurelyUnit.{is_surely_unit}
use Rattle.opt_base.specs.Walks.{stmt_carries_nothing, stmt_is_no_export}
use Rattle.ast_types.proofs.OtherKinds.{NoBreak, NoVar, NoExport, NoNoop, NoWhile, NoDo, NoFor, NoAssignment, NoTry, NoCall, NoCallStatement}

pub no_break : {x : declared_stmt.Stmt} {s : Stmt} → StmtCase x s
    → NoBreak x
    → true ≡ stmt_carries_nothing s
no_break (break_loop_case e k p) a = absurd (a e k p refl)
no_break _ a = refl

pub no_export : {x : declared_stmt.Stmt} {s : Stmt} → StmtCase x s
    → NoVar x
    → NoExport x
    → true ≡ stmt_is_no_export s
no_export (var_case v k p) a b = absurd (a v k p refl)
no_export (export_case v p) a b = absurd (b v p refl)
no_export _ a b = refl

pub no_unit : {x : declared_stmt.Stmt} {s : Stmt} → StmtCase x s
    → NoNoop x
    → NoWhile x
    → NoDo x
    → NoFor x
    → NoVar x
    → NoAssignment x
    → NoTry x
    → false ≡ is_surely_unit s
no_unit (noop_case p) a b c d e f g = absurd (a p refl)
no_unit (while_case x p) a b c d e f g = absurd (b x p refl)
no_unit (do_case x k p) a b c d e f g = absurd (c x k p refl)
no_unit (for_case x p) a b c d e f g = absurd (d x p refl)
no_unit (var_case v k p) a b c d e f g = absurd (e v k p refl)
no_unit (assignment_case x) a b c d e f g = absurd (f x refl)
no_unit (try_catch_case x p) a b c d e f g = absurd (g x p refl)
no_unit _ a b c d e f g = refl

pub no_call : {x : declared_expr.Expr} {e : Expr} → ExprCase x e → NoCall x → false ≡ is_capturing (OfExpr e)
no_call (call_case f p) a = absurd (a f p refl)
no_call _ a = refl

pub no_call_statement : {x : declared_stmt.Stmt} {s : Stmt} → StmtCase x s → NoCallStatement x → false ≡ is_capturing (OfStmt s)
no_call_statement (call_statement_case f p) a = absurd (a f p refl)
no_call_statement _ a = refl

pub no_eval_call : {x : declared_expr.Expr} {e : Expr} → ExprCase x e → NoCall x → true ≡ is_no_eval (OfExpr e)
no_eval_call (call_case f p) a = absurd (a f p refl)
no_eval_call _ a = refl

pub no_eval_statement : {x : declared_stmt.Stmt} {s : Stmt} → StmtCase x s → NoCallStatement x → true ≡ is_no_eval (OfStmt s)
no_eval_statement (call_statement_case f p) a = absurd (a f p refl)
no_eval_statement _ a = refl
