-- Scripts: of one expression, and whole ones.
use Rattle.std.proofs.Common.{◌≡◌, ◌≤◌, ◌<◌, ◌+◌, ◌∙◌, ◌&&◌, ℕ, zero, suc, Bool, false, not, IsTrue, List, [], ◌∷◌, drop, map, length, get_or, refl, sym, ap, subst, add-one, arith}
use Rattle.std.proofs.Math.Seq.{drop-cons}
use Rattle.std.specs.Rc.{rc_value}
use Rattle.std.specs.declared.rc.Rc.{Rc}
use Rattle.std.specs.declared.alloc.Global.{Global}
use Rattle.base_text.specs.Text.{Text}
use Rattle.ast_types.specs.declared.expr.Expr as declared_expr
use Rattle.ast_types.specs.declared.stmt.Stmt as declared_stmt
use Rattle.ast_types.specs.declared.stmt.Stmt.TheVariants as stmt_kind
use Rattle.ast_types.specs.declared.script_fn.ScriptFuncDef.{ScriptFuncDef}
use Rattle.ast_types.specs.Reading.{expr_of, function_of, stmt_of, stmt_of-Expr, stmts_of}
use Rattle.ast_types.proofs.ItemLists.{stmts_of-drop}
use Rattle.theory_meaning.specs.Tree.{ExprStmt, Function, Script, Stmt, Stmts, no_stmts, stmt}
use Rattle.theory_grammar.specs.Words.{Blanks}
use Rattle.theory_grammar.specs.Grammar.{Opens, Spells}
use Rattle.theory_grammar.specs.Statements.{Parted, ReadsFunction, ReadsScript, ReadsTop, SpellsScript, a_function, a_statement, ends_by_itself, over}
use Rattle.theory_grammar.specs.Covered.{IsOneExpression, is_covered, is_simple}

only : (xs : List declared_stmt.Stmt) (x : declared_stmt.Stmt) → 1 ≤ length xs → length xs < 2 → x ≡ get_or xs 0 x → stmts_of xs ≡ stmt (stmt_of x) no_stmts
only [] x h k is = absurd (omega (arith, h))
only (y ∷ []) x h k is = ap (λ s. stmt (stmt_of s) no_stmts) (sym is)
only (y ∷ z ∷ xs) x h k is = absurd (omega (arith, k))

-- the only statement is an expression
pub one_statement : {ws : Text} (xs : List declared_stmt.Stmt) (x : declared_stmt.Stmt) (e f : declared_expr.Expr) → 1 ≤ length xs → length xs < 2 → x ≡ get_or xs 0 x → x ≡ stmt_kind.Expr e → f ≡ e → (IsTrue (is_simple ws && is_covered (expr_of f)) → Spells ws (expr_of f)) → IsOneExpression ws (stmts_of xs)
one_statement xs x e f h k is as_expr same spelled = record {
  one = expr_of f;
  is_one = only xs x h k is ∙ ap (λ s. stmt (stmt_of s) no_stmts) as_expr ∙ ap (λ s. stmt s no_stmts) (stmt_of-Expr e) ∙ ap (λ g. stmt (ExprStmt (expr_of g)) no_stmts) (sym same);
  spelled = spelled;
}

-- ---- whole scripts

abbrev pub functions_in : List (Rc ScriptFuncDef Global) → List Function
functions_in fs = map function_of (map rc_value fs)

pub spelled_script : {ws start rest ends : Text} (p : Script) → Opens ws start → ReadsScript false start p.statements p.functions rest → Blanks rest ends → ends ≡ [] → SpellsScript ws p
spelled_script {start = start} {rest = rest} p o r b h = record { start = start; opens = o; rest = rest; reads = r; ends = subst (λ x. Blanks rest x) h b }

pub statement_next : {owed : Bool} {ws mid behind : Text} (by_itself : Bool) (s : Stmt) → by_itself ≡ ends_by_itself s → Parted owed ws mid → ReadsTop mid s behind → (ss : Stmts) (fs : List Function) (rest : Text) → ReadsScript (not by_itself) behind ss fs rest → ReadsScript owed ws (stmt s ss) fs rest
statement_next {behind = behind} by_itself s is p t ss fs rest r = a_statement p t (subst (λ b. ReadsScript (not b) behind ss fs rest) is r)

pub function_next : {owed : Bool} {ws mid behind : Text} {f : Function} → Parted owed ws mid → ReadsFunction mid f behind → (ss : Stmts) (fs : List Function) (rest : Text) → ReadsScript false behind ss fs rest → ReadsScript owed ws ss (f ∷ fs) rest
function_next p t ss fs rest r = a_function p t r

drop_functions : (xs : List (Rc ScriptFuncDef Global)) (i : ℕ) → length xs ≤ i → drop i xs ≡ []
drop_functions [] zero h = refl
drop_functions [] (suc i) h = refl
drop_functions (x ∷ xs) zero h = absurd (omega (arith, h))
drop_functions (x ∷ xs) (suc i) h = drop_functions xs i (omega (arith, h))

drop_statements : (xs : List declared_stmt.Stmt) (i : ℕ) → length xs ≤ i → drop i xs ≡ []
drop_statements [] zero h = refl
drop_statements [] (suc i) h = refl
drop_statements (x ∷ xs) zero h = absurd (omega (arith, h))
drop_statements (x ∷ xs) (suc i) h = drop_statements xs i (omega (arith, h))

-- a statement of a script, and those behind it
pub statements_next : {owed owed2 : Bool} {place behind rest : Text} (xs : List declared_stmt.Stmt) (i : ℕ) (x : declared_stmt.Stmt) (fs : List Function) → i < length xs → x ≡ get_or xs i x → ((ss : Stmts) (gs : List Function) (end : Text) → ReadsScript owed2 behind ss gs end → ReadsScript owed place (stmt (stmt_of x) ss) gs end) → ReadsScript owed2 behind (stmts_of (drop (i + 1) xs)) fs rest → ReadsScript owed place (stmts_of (drop i xs)) fs rest
statements_next {owed = owed} {place = place} {rest = rest} xs i x fs h is f r = subst (λ ss. ReadsScript owed place ss fs rest) (sym (stmts_of-drop xs i x h ∙ ap (λ y. stmt (stmt_of y) (stmts_of (drop (i + 1) xs))) (sym is))) (f _ fs rest r)

-- a function of a script, and those behind it
pub functions_next : {owed : Bool} {place behind rest : Text} (fs : List (Rc ScriptFuncDef Global)) (n i : ℕ) (x : Rc ScriptFuncDef Global) (ss : Stmts) → n ≡ i → i < length fs → x ≡ get_or fs i x → ((ts : Stmts) (gs : List Function) (end : Text) → ReadsScript false behind ts gs end → ReadsScript owed place ts (function_of (rc_value x) ∷ gs) end) → ReadsScript false behind ss (functions_in (drop (i + 1) fs)) rest → ReadsScript owed place ss (functions_in (drop n fs)) rest
functions_next {owed = owed} {place = place} {rest = rest} fs n i x ss at_it h is f r = let split : functions_in (drop i fs) ≡ function_of (rc_value (get_or fs i x)) ∷ functions_in (drop (i + 1) fs) = rw (add-one, drop-cons fs i x) refl in
    subst (λ m. ReadsScript owed place ss (functions_in (drop m fs)) rest) (sym at_it) (subst (λ gs. ReadsScript owed place ss gs rest) (sym (split ∙ ap (λ y. function_of (rc_value y) ∷ functions_in (drop (i + 1) fs)) (sym is))) (f ss _ rest r))

pub script_over : {owed : Bool} {ws rest : Text} (xs : List declared_stmt.Stmt) (fs : List (Rc ScriptFuncDef Global)) (i n : ℕ) → length xs ≤ i → length fs ≤ n → Parted false ws rest → ReadsScript owed ws (stmts_of (drop i xs)) (functions_in (drop n fs)) rest
script_over {owed = owed} {ws = ws} {rest = rest} xs fs i n h k p = subst (λ ss. ReadsScript owed ws (stmts_of ss) (functions_in (drop n fs)) rest) (sym (drop_statements xs i h)) (subst (λ gs. ReadsScript owed ws no_stmts (functions_in gs) rest) (sym (drop_functions fs n k)) (over p))

pub ruleset script_steps = (spelled_script, statement_next, function_next)
