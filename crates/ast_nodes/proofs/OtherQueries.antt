-- All other nodes, where a match names some.
use Rattle.std.proofs.Common.{◌≡◌, Bool, false, refl}
use Rattle.ast_types.specs.declared.expr.Expr as declared_expr
use Rattle.ast_types.specs.declared.stmt.Stmt as declared_stmt
use Rattle.theory_meaning.specs.Queries.{is_block_dependent, is_dependent_expr, is_internally_pure, is_internally_pure_expr, is_literally, is_pure, is_pure_expr}
use Rattle.theory_meaning.specs.Tree.{Expr, Stmt}
use Rattle.ast_types.proofs.Cases.{ExprCase, bool_constant_case, braces_case, call_case, StmtCase, call_statement_case, export_case, expression_case, import_case, var_case}
use Rattle.ast_types.proofs.OtherKinds.{NoBraces, NoCall, NoVar, NoImport, NoExport, NoExpression, NoBool, NoCallStatement}

-- it is none of these
pub no_literal : {x : declared_expr.Expr} {e : Expr} (b : Bool) → ExprCase x e → NoBool x → false ≡ is_literally b e
no_literal b (bool_constant_case c p) l = absurd (l c p refl)
no_literal b _ l = refl

pub no_dependence : {x : declared_expr.Expr} {e : Expr} → ExprCase x e → NoBraces x → NoCall x → false ≡ is_dependent_expr e
no_dependence (braces_case b) l m = absurd (l b refl)
no_dependence (call_case c p) l m = absurd (m c p refl)
no_dependence _ l m = refl

pub pure_alone : {x : declared_expr.Expr} {e : Expr} → ExprCase x e → NoBraces x → is_pure_expr e ≡ is_internally_pure_expr e
pure_alone (braces_case b) l = absurd (l b refl)
pure_alone _ l = refl

-- ---- statements

pub independent : {x : declared_stmt.Stmt} {s : Stmt} → StmtCase x s → NoVar x → NoImport x → NoExport x → NoCallStatement x → NoExpression x → false ≡ is_block_dependent s
independent (var_case v k p) a b c d e = absurd (a v k p refl)
independent (import_case m p) a b c d e = absurd (b m p refl)
independent (export_case n p) a b c d e = absurd (c n p refl)
independent (call_statement_case f p) a b c d e = absurd (d f p refl)
independent (expression_case x) a b c d e = absurd (e x refl)
independent _ a b c d e = refl

pub pure_statement : {x : declared_stmt.Stmt} {s : Stmt} → StmtCase x s → NoVar x → NoExpression x → NoImport x → NoExport x → is_pure s ≡ is_internally_pure s
pure_statement (var_case v k p) a b c d = absurd (a v k p refl)
pure_statement (expression_case x) a b c d = absurd (b x refl)
pure_statement (import_case m p) a b c d = absurd (c m p refl)
pure_statement (export_case n p) a b c d = absurd (d n p refl)
pure_statement _ a b c d = refl
