-- An `if` alone in an `if`.
use Rattle.std.proofs.Common.{◌≡◌, ◌≢◌, ◌≤◌, Bool, true, false, not, ◌&&◌, List, [], ◌∷◌, length, arith, Option, Some, None, refl, sym, ap, ◌∙◌, subst}
use Rattle.std.specs.Prelude.{MatchOption}
use Rattle.ast_types.specs.declared.block.StmtBlock.{StmtBlock}
use Rattle.ast_types.specs.declared.expr.Expr as declared_expr
use Rattle.ast_types.specs.declared.stmt.Stmt as declared_stmt
use Rattle.theory_meaning.specs.Constants.{constant_bool}
use Rattle.theory_meaning.specs.Tree.{Expr, And, Exprs, no_exprs, expr, Stmt, If, Stmts, no_stmts, stmt}
use Rattle.ast_types.specs.Reading.{expr_of, stmt_of, stmts_of}
use Rattle.theory_rewriting.specs.Operands.{with_last, is_and, ends_false}
use Rattle.theory_rewriting.specs.Rules as rule
use Rattle.opt_base.proofs.Stepping.{stmt_rewrite_as}
use Rattle.opt_stmts.specs.Flows.{Joined}
use Rattle.opt_stmts.specs.SettledChoices.{is_empty, goes_on, is_bare_if, is_bare_if_alone, nests}
use Rattle.opt_stmts.proofs.ChoiceParts.{keeps_nested, keeps_joined}

-- the inner condition stands beside the outer one
pub nested_made : (c b : Expr) (ss : Stmts) {body : Stmts} {c' : Expr} → constant_bool c ≡ None → is_and c ≡ false → body ≡ stmt (If b ss no_stmts) no_stmts → c' ≡ And (expr c (expr b no_exprs)) → Joined true (If c body no_stmts) (If c' ss no_stmts)
nested_made c b ss u a i j = λ w.
    stmt_rewrite_as (ap (λ z. If c z no_stmts) i) (ap (λ z. If z ss no_stmts) j) (record { rule = λ k. rule.nested_if a; keeps = λ h. keeps_nested c b ss u })

-- or behind its operands
pub joins_made : (es : Exprs) (b : Expr) (ss : Stmts) {body : Stmts} {es' : Exprs} → ends_false es ≡ false → body ≡ stmt (If b ss no_stmts) no_stmts → es' ≡ with_last es b → Joined true (If (And es) body no_stmts) (If (And es') ss no_stmts)
joins_made es b ss n i j = λ w.
    stmt_rewrite_as (ap (λ z. If (And es) z no_stmts) i) (ap (λ z. If (And z) ss no_stmts) j) (record { rule = λ k. rule.nested_if_joins n; keeps = λ h. keeps_joined es b ss n })

-- ---- trees that are spelled so

no_statements : (ss : Stmts) → true ≡ is_empty ss → ss ≡ no_stmts
no_statements no_stmts h = refl
no_statements (stmt s ss) h = absurd cc

pub joined_as : (f : Bool) {x x1 x' x1' : Stmt} → x ≡ x1 → x' ≡ x1' → Joined f x1 x1' → Joined f x x'
joined_as f {x1 = x1} {x' = x'} i j q = subst (λ a. Joined f a x') (sym i) (subst (λ a. Joined f x1 a) (sym j) q)

pub without_else : (c : Expr) (a b : Stmts) {d : Expr} → true ≡ is_empty b → c ≡ d → If c a b ≡ If d a no_stmts
without_else c a b {d = d} h i = ap (λ z. If z a b) i ∙ ap (If d a) (no_statements b h)

pub nests_as : (c : Expr) (a b : Stmts) {d : Expr} → true ≡ is_empty b → c ≡ d → goes_on d && is_bare_if_alone a ≡ nests c a b
nests_as c a b {d = d} h i = ap (λ z. goes_on z && is_bare_if_alone a) (sym i) ∙ ap (λ z. z && (goes_on c && is_bare_if_alone a)) h

pub joins_or_not : (es : Exprs) (a : Stmts) (b : Bool) → false ≡ ends_false es → b ≡ is_bare_if_alone a → b ≡ goes_on (And es) && is_bare_if_alone a
joins_or_not es a b n h = h ∙ ap (λ z. not z && is_bare_if_alone a) n

-- ---- one statement

pub alone-long : (l : List declared_stmt.Stmt) → 2 ≤ length l → false ≡ is_bare_if_alone (stmts_of l)
alone-long [] h = refl
alone-long (x ∷ []) h = absurd (omega arith)
alone-long (x ∷ y ∷ l) h = refl

pub alone-other : (l : List declared_stmt.Stmt) → length l ≢ 1 → is_bare_if_alone (stmts_of l) ≡ false
alone-other [] h = refl
alone-other (x ∷ []) h = absurd (h refl)
alone-other (x ∷ y ∷ l) h = refl

-- what an `if` alone is made of
pub only-parts : {l : List declared_stmt.Stmt} {s : declared_stmt.Stmt} (o : Option (declared_expr.Expr × StmtBlock)) → l ≡ s ∷ [] → MatchOption o (is_bare_if (stmt_of s) ≡ false) (λ p. stmt_of s ≡ If (expr_of p.0) (stmts_of p.1.block) no_stmts) → MatchOption o (is_bare_if_alone (stmts_of l) ≡ false) (λ p. stmts_of l ≡ stmt (If (expr_of p.0) (stmts_of p.1.block) no_stmts) no_stmts)
only-parts None e h = ap (λ (k : List declared_stmt.Stmt). is_bare_if_alone (stmts_of k)) e ∙ h
only-parts (Some p) e h = ap (λ (k : List declared_stmt.Stmt). stmts_of k) e ∙ ap (λ z. stmt z no_stmts) h
