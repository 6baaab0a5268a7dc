-- A list without items, and all other nodes, where a match names some.
use Rattle.std.proofs.Common.{◌≡◌, Bool, true, false, List, [], ◌∷◌, refl}
use Rattle.std.specs.Prelude.{◌↔◌, IsTrue}
use Rattle.ast_types.specs.declared.expr.Expr as declared_expr
use Rattle.ast_types.specs.declared.stmt.Stmt as declared_stmt
use Rattle.theory_meaning.specs.Tree.{Expr, Stmt}
use Rattle.ast_types.specs.Reading.{stmts_of}
use Rattle.ast_types.proofs.Cases.{ExprCase, StmtCase, variable_case, braces_case, noop_case, if_case, block_case, while_case, do_case, for_case, var_case, assignment_case, try_catch_case, expression_case, return_case, import_case, export_case}
use Rattle.opt_lists.specs.Sweep.{is_nothing, is_name, is_lone, holds_nothing, is_in_braces, differs_inside, may_be_unit, whole_returns_value, whole_returns_nothing}
use Rattle.ast_types.proofs.OtherKinds.{NoVariable, NoBraces, NoNoop, NoIf, NoBlock, NoWhile, NoDo, NoFor, NoVar, NoAssignment, NoTry, NoExpression, NoReturn, NoImport, NoExport}

-- a list without items reads as no statements
pub nothing_of : (l : List declared_stmt.Stmt) (b : Bool) → (IsTrue b ↔ (l ≡ [])) → b ≡ is_nothing (stmts_of l)
nothing_of [] b h = h.1 refl
nothing_of (s ∷ l) true h = let k = h.0 refl in absurd cc
nothing_of (s ∷ l) false h = refl

pub no_name : {x : declared_expr.Expr} {e : Expr} → ExprCase x e → NoVariable x → false ≡ is_name e
no_name (variable_case v short p) a = absurd (a v short p refl)
no_name _ a = refl

pub no_lone : {x : declared_stmt.Stmt} {s : Stmt} → StmtCase x s → NoExpression x → false ≡ is_lone s
no_lone (expression_case e) a = absurd (a e refl)
no_lone _ a = refl

pub no_lists : {x : declared_stmt.Stmt} {s : Stmt} → StmtCase x s → NoIf x → NoTry x → NoDo x → NoFor x → NoBlock x → true ≡ holds_nothing s
no_lists (if_case f p) a b c d e = absurd (a f p refl)
no_lists (try_catch_case f p) a b c d e = absurd (b f p refl)
no_lists (do_case f k p) a b c d e = absurd (c f k p refl)
no_lists (for_case v p) a b c d e = absurd (d v p refl)
no_lists (block_case v) a b c d e = absurd (e v refl)
no_lists _ a b c d e = refl

pub no_return_of_value : {x : declared_stmt.Stmt} {s : Stmt} → StmtCase x s → NoReturn x → false ≡ whole_returns_value s
no_return_of_value (return_case e k p) a = absurd (a e k p refl)
no_return_of_value _ a = refl

pub no_return_of_nothing : {x : declared_stmt.Stmt} {s : Stmt} → StmtCase x s → NoReturn x → false ≡ whole_returns_nothing s
no_return_of_nothing (return_case e k p) a = absurd (a e k p refl)
no_return_of_nothing _ a = refl

-- ---- kinds

pub no_braces : {x : declared_expr.Expr} {e : Expr} → ExprCase x e → NoBraces x → false ≡ is_in_braces e
no_braces (braces_case b) a = absurd (a b refl)
no_braces _ a = refl

pub no_difference : {x : declared_stmt.Stmt} {s : Stmt} → StmtCase x s → NoVar x → NoImport x → NoExport x → NoExpression x → false ≡ differs_inside s
no_difference (var_case v k p) a b c d = absurd (a v k p refl)
no_difference (import_case v p) a b c d = absurd (b v p refl)
no_difference (export_case v p) a b c d = absurd (c v p refl)
no_difference (expression_case e) a b c d = absurd (d e refl)
no_difference _ a b c d = refl

pub no_unit : {x : declared_stmt.Stmt} {s : Stmt} → StmtCase x s → NoNoop x → NoVar x → NoAssignment x → NoTry x → NoWhile x → NoDo x → NoFor x → false ≡ may_be_unit s
no_unit (noop_case p) a b c d e f g = absurd (a p refl)
no_unit (var_case v k p) a b c d e f g = absurd (b v k p refl)
no_unit (assignment_case v) a b c d e f g = absurd (c v refl)
no_unit (try_catch_case x p) a b c d e f g = absurd (d x p refl)
no_unit (while_case x p) a b c d e f g = absurd (e x p refl)
no_unit (do_case x k p) a b c d e f g = absurd (f x k p refl)
no_unit (for_case v p) a b c d e f g = absurd (g v p refl)
no_unit _ a b c d e f g = refl
