-- All other nodes, where a match names some.
use Rattle.std.proofs.Common.{◌≡◌, true, false, refl}
use Rattle.ast_types.specs.declared.expr.Expr as declared_expr
use Rattle.ast_types.specs.declared.stmt.Stmt as declared_stmt
use Rattle.theory_meaning.specs.Tree.{Expr, Stmt}
use Rattle.ast_types.proofs.Cases.{ExprCase, braces_case, call_case, StmtCase, while_case, block_case, try_catch_case, expression_case}
use Rattle.ast_types.proofs.OtherKinds.{NoBraces, NoCall, NoWhile, NoBlock, NoTry, NoExpression}
use Rattle.opt_stmts.specs.SettledStatements.{is_block, stays, holds_some, is_over_braces, is_expression, is_while, is_try}

pub no_block : {x : declared_stmt.Stmt} {s : Stmt} → StmtCase x s → NoBlock x → false ≡ is_block s
no_block (block_case b) h = absurd (h b refl)
no_block _ h = refl

pub stays_as_statement : {x : declared_expr.Expr} {e : Expr} → ExprCase x e → NoBraces x → NoCall x → true ≡ stays e
stays_as_statement (braces_case b) h c = absurd (h b refl)
stays_as_statement (call_case c p) h k = absurd (k c p refl)
stays_as_statement _ h c = refl

pub no_braces : {x : declared_expr.Expr} {e : Expr} → ExprCase x e → NoBraces x → false ≡ holds_some e
no_braces (braces_case b) h = absurd (h b refl)
no_braces _ h = refl

pub not_over_braces : {x : declared_stmt.Stmt} {s : Stmt} → StmtCase x s → NoExpression x → false ≡ is_over_braces s
not_over_braces (expression_case e) h = absurd (h e refl)
not_over_braces _ h = refl

pub no_expression : {x : declared_stmt.Stmt} {s : Stmt} → StmtCase x s → NoExpression x → false ≡ is_expression s
no_expression (expression_case e) h = absurd (h e refl)
no_expression _ h = refl

pub no_while : {x : declared_stmt.Stmt} {s : Stmt} → StmtCase x s → NoWhile x → false ≡ is_while s
no_while (while_case f p) h = absurd (h f p refl)
no_while _ h = refl

pub no_try : {x : declared_stmt.Stmt} {s : Stmt} → StmtCase x s → NoTry x → false ≡ is_try s
no_try (try_catch_case f p) h = absurd (h f p refl)
no_try _ h = refl
