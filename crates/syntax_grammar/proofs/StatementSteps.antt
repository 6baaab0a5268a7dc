-- Statements with blocks.
use Rattle.std.proofs.Common.{◌≡◌, ◌==◌, ◌≤◌, ◌<◌, ◌+◌, ◌∙◌, ℕ, zero, suc, not, Bool, true, false, List, [], ◌∷◌, drop, length, get_or, sym, ap, subst, refl, arith, codes}
use Rattle.std.proofs.lemmas.Bool.Decides.{nat_tests}
use Rattle.base_text.specs.Text.{Text}
use Rattle.ast_types.specs.declared.stmt.Stmt as declared_stmt
use Rattle.ast_types.specs.declared.stmt.Stmt.TheVariants as stmt_kind
use Rattle.ast_types.specs.declared.stmt.FlowControl.{FlowControl}
use Rattle.base_tokens.specs.declared.position.Position.{Position}
use Rattle.ast_types.specs.Reading.{expr_of, stmt_of, stmt_of-If, stmts_of}
use Rattle.ast_types.proofs.ItemLists.{stmts_of-drop}
use Rattle.theory_meaning.specs.Tree.{Do, Expr, If, Stmt, Stmts, UnitConstant, While, no_stmts, stmt}
use Rattle.theory_grammar.specs.Words.{Letters, Next}
use Rattle.theory_grammar.specs.Grammar.{Reads}
use Rattle.theory_grammar.specs.Statements.{Parted, ReadsBlock, ReadsElse, ReadsIf, ReadsStmt, ReadsStmts, ReadsTop, block, braces, choice, do_loop, else_block, else_if, endless, ends_by_itself, for_loop, if_else, inner, no_else, no_more, one_more, repeating, simple, try_catch, while_loop}

pub endless_at : {ws mid rest : Text} {ss : Stmts} (e : Expr) → e ≡ UnitConstant → Next ws (Letters (codes "loop")) mid → ReadsBlock mid ss rest → ReadsStmt ws (While e ss) rest
endless_at {ws = ws} {rest = rest} {ss = ss} e is w r = subst (λ x. ReadsStmt ws (While x ss) rest) (sym is) (endless w r)

pub do_at : {ws mid behind last rest : Text} {e : Expr} {ss : Stmts} (until read seen : Bool) → read ≡ until → seen ≡ false → Next ws (Letters (codes "do")) mid → ReadsBlock mid ss behind → Next behind (Letters (repeating read)) last → Reads zero last e rest → ReadsStmt ws (Do until seen e ss) rest
do_at {ws = ws} {rest = rest} {e = e} {ss = ss} until read seen is h w b v r = subst (λ x. ReadsStmt ws (Do until x e ss) rest) (sym h) (subst (λ x. ReadsStmt ws (Do x false e ss) rest) is (do_loop read w b v r))

drop_all : (xs : List declared_stmt.Stmt) (i : ℕ) → length xs ≤ i → drop i xs ≡ []
drop_all [] zero h = refl
drop_all [] (suc i) h = refl
drop_all (x ∷ xs) zero h = absurd (omega (arith, h))
drop_all (x ∷ xs) (suc i) h = drop_all xs i (omega (arith, h))

-- a statement of a list, and those behind it
pub list_next : {place start mid rest : Text} {owed : Bool} (xs : List declared_stmt.Stmt) (i : ℕ) (x : declared_stmt.Stmt) (by_itself : Bool) → i < length xs → x ≡ get_or xs i x → by_itself ≡ ends_by_itself (stmt_of x) → Parted owed place start → ReadsStmt start (stmt_of x) mid → ReadsStmts (not by_itself) mid (stmts_of (drop (i + 1) xs)) rest → ReadsStmts owed place (stmts_of (drop i xs)) rest
list_next {place = place} {mid = mid} {rest = rest} {owed = owed} xs i x by_itself h is ends p r rs = subst (λ ss. ReadsStmts owed place ss rest) (sym (stmts_of-drop xs i x h ∙ ap (λ y. stmt (stmt_of y) (stmts_of (drop (i + 1) xs))) (sym is))) (one_more p r (subst (λ b. ReadsStmts (not b) mid (stmts_of (drop (i + 1) xs)) rest) ends rs))

pub list_over : {ws rest : Text} {owed : Bool} (xs : List declared_stmt.Stmt) (i : ℕ) → length xs ≤ i → Parted false ws rest → ReadsStmts owed ws (stmts_of (drop i xs)) rest
list_over {ws = ws} {rest = rest} {owed = owed} xs i h p = subst (λ ss. ReadsStmts owed ws (stmts_of ss) rest) (sym (drop_all xs i h)) (no_more p)

no_else_by : {ws : Text} (xs : List declared_stmt.Stmt) → true ≡ (length xs == 0) → ReadsElse ws (stmts_of xs) ws
no_else_by [] h = no_else
no_else_by (x ∷ xs) h = absurd (grind (arith, nat_tests))

pub no_else_at : {ws : Text} (xs : List declared_stmt.Stmt) (r : Bool) → r ≡ (length xs == 0) → r ≡ true → ReadsElse ws (stmts_of xs) ws
no_else_at xs r h k = no_else_by xs (sym k ∙ h)

-- the only statement
only : (xs : List declared_stmt.Stmt) (x : declared_stmt.Stmt) → 1 ≤ length xs → length xs < 2 → x ≡ get_or xs 0 x → stmts_of xs ≡ stmt (stmt_of x) no_stmts
only [] x h k is = absurd (omega (arith, h))
only (y ∷ []) x h k is = ap (λ s. stmt (stmt_of s) no_stmts) (sym is)
only (y ∷ z ∷ xs) x h k is = absurd (omega (arith, k))

pub if_tree : (d : declared_stmt.Stmt) (x y : FlowControl) (p : Position) → d ≡ stmt_kind.If x p → y ≡ x → stmt_of d ≡ If (expr_of y.expr) (stmts_of y.body.block) (stmts_of y.branch.block)
if_tree d x y p is same = ap stmt_of is ∙ stmt_of-If x p ∙ ap (λ (z : FlowControl). If (expr_of z.expr) (stmts_of z.body.block) (stmts_of z.branch.block)) (sym same)

pub else_if_at : {mid rest : Text} {s : Stmt} (xs : List declared_stmt.Stmt) (x : declared_stmt.Stmt) → 1 ≤ length xs → length xs < 2 → x ≡ get_or xs 0 x → stmt_of x ≡ s → ReadsIf mid s rest → (ws : Text) → Next ws (Letters (codes "else")) mid → ReadsElse ws (stmts_of xs) rest
else_if_at {rest = rest} xs x h k is tree r ws w = subst (λ ss. ReadsElse ws ss rest) (sym (only xs x h k is ∙ ap (λ y. stmt y no_stmts) tree)) (else_if w r)

pub ruleset statement_steps = (simple, block, choice, while_loop, endless_at, do_at, for_loop, try_catch, if_else, else_block, no_else_at, braces, inner)
