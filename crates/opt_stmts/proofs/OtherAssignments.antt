-- All other nodes, where a match names some.
use Rattle.std.proofs.Common.{◌≡◌, true, false, refl}
use Rattle.rhai_base.specs.Value.{Text}
use Rattle.ast_types.specs.declared.expr.Expr as declared_expr
use Rattle.ast_types.specs.declared.stmt.Stmt as declared_stmt
use Rattle.theory_meaning.specs.Engine.{Engine}
use Rattle.theory_meaning.specs.Tree.{Expr, Stmt}
use Rattle.ast_types.proofs.Cases.{ExprCase, variable_case, method_call_case, call_case, StmtCase, assignment_case, call_statement_case, share_case}
use Rattle.ast_types.proofs.OtherKinds.{NoVariable, NoCall, NoMethod, NoAssignment, NoCallStatement, NoShare}
use Rattle.opt_stmts.specs.SettledAssignments.{is_share, is_assignment, is_name, operates_on, assigns_itself}
use Rattle.opt_stmts.specs.WritingWalk.{expr_writes_nothing, stmt_writes_nothing}

-- ---- shared names

pub no_share : {x : declared_stmt.Stmt} {s : Stmt} → StmtCase x s → NoShare x → false ≡ is_share s
no_share (share_case xs) h = absurd (h xs refl)
no_share _ h = refl

-- ---- what may write

pub expr_writes : {x : declared_expr.Expr} {e : Expr} → ExprCase x e → NoMethod x → NoCall x → true ≡ expr_writes_nothing e
expr_writes (method_call_case c p) h i = absurd (h c p refl)
expr_writes (call_case c p) h i = absurd (i c p refl)
expr_writes _ h i = refl

pub stmt_writes : {x : declared_stmt.Stmt} {s : Stmt} → StmtCase x s → NoAssignment x → NoCallStatement x → true ≡ stmt_writes_nothing s
stmt_writes (assignment_case v) h i = absurd (h v refl)
stmt_writes (call_statement_case c p) h i = absurd (i c p refl)
stmt_writes _ h i = refl

-- ---- assignments

pub no_assignment : {x : declared_stmt.Stmt} {s : Stmt} → StmtCase x s → NoAssignment x → false ≡ is_assignment s
no_assignment (assignment_case v) h = absurd (h v refl)
no_assignment _ h = refl

pub no_name : (n : Text) {x : declared_expr.Expr} {e : Expr} → ExprCase x e → NoVariable x → false ≡ is_name n e
no_name n (variable_case v i p) h = absurd (h v i p refl)
no_name n _ h = refl

pub no_operation : (r : Engine) (n : Text) {x : declared_expr.Expr} {e : Expr} → ExprCase x e → NoCall x → operates_on r n e ≡ false
no_operation r n (call_case c p) h = absurd (h c p refl)
no_operation r n _ h = refl

pub no_target : (r : Engine) (v : Expr) {x : declared_expr.Expr} {e : Expr} → ExprCase x e → NoVariable x → assigns_itself r e v ≡ false
no_target r v (variable_case y i p) h = absurd (h y i p refl)
no_target r v _ h = refl
