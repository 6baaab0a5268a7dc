-- Nodes whose parts are bare, by cases.
use Rattle.std.proofs.Common.{◌≡◌, ◌≢◌, ℕ, suc, true, cond, List, [], ◌∷◌, ◌++◌, Result, Ok, Err, length, codes, refl, sym, ap, ◌∙◌, subst, arith}
use Rattle.std.specs.Prelude.{IfOk, MatchResult, None}
use Rattle.base_tokens.specs.Names.{is_valid_name}
use Rattle.rhai_base.specs.Value.{Text, PointerV, Values}
use Rattle.ast_types.specs.declared.expr.Expr as declared_expr
use Rattle.ast_types.specs.declared.stmt.Stmt as declared_stmt
use Rattle.ast_types.specs.declared.stmt.Stmt.TheVariants as stmt_kind
use Rattle.ast_types.specs.Reading.{expr_of, exprs_of, mark_of, stmt_of, stmts_of, stmt_of-Expr}
use Rattle.ast_types.proofs.Cases.{ExprCase, StmtCase, braces_case, block_case, expression_case, expr_cases, stmt_cases}
use Rattle.theory_meaning.specs.Tree.{Expr, DynamicConstant, InterpolatedString, BlockExpr, FnCall, expr, Stmt, ExprStmt, Block, Stmts, no_stmts, stmt}
use Rattle.ast_make.specs.Trees.{called}
use Rattle.theory_spelling.specs.Bare.{bare_text, curried_call, literal_of, literals_of, pointer_literal, evaluated, unbraced, with_other}
use Rattle.ast_types.proofs.OtherKinds.{NoBraces, NoBlock, NoExpression}

-- what an answer is known for
pub ok_gives : {A E : Type 0} (P : A → Type 0) {r : Result A E} {a : A} → r ≡ Ok a → IfOk r P → P a
ok_gives P is h = subst (λ x. IfOk x P) is h

pub ok_matches : {A E : Type 0} (P : A → Type 0) (Q : E → Type 0) {r : Result A E} {a : A} → r ≡ Ok a → MatchResult r P Q → P a
ok_matches P Q is h = subst (λ x. MatchResult x P Q) is h

-- ---- an expression that is no braces, as a statement

evaluated_other : {d : declared_expr.Expr} {e : Expr} → ExprCase d e → NoBraces d → ExprStmt e ≡ evaluated e
evaluated_other (braces_case b) h = absurd (h b refl)
evaluated_other _ h = refl

pub evaluated_default : {E : Type 0} (r : Result declared_stmt.Stmt E) (d : declared_expr.Expr) → NoBraces d
    → IfOk r (λ s. s ≡ stmt_kind.Expr d) → IfOk r (λ s. stmt_of s ≡ evaluated (expr_of d))
evaluated_default (Ok s) d h made = ap stmt_of made ∙ stmt_of-Expr d ∙ evaluated_other (expr_cases d) h
evaluated_default (Err e) d h made = tt

-- ---- statements in braces

braced_other : {d : declared_stmt.Stmt} {s : Stmt} → StmtCase d s → NoBlock d → NoExpression d → BlockExpr (stmt s no_stmts) ≡ unbraced (stmt s no_stmts)
braced_other (block_case b) h k = absurd (h b refl)
braced_other (expression_case x) h k = absurd (k x refl)
braced_other _ h k = refl

pub braced_default : {E : Type 0} (r : Result declared_expr.Expr E) (d : declared_stmt.Stmt) (ss : List declared_stmt.Stmt) → ss ≡ d ∷ []
    → NoBlock d → NoExpression d
    → IfOk r (λ e. expr_of e ≡ BlockExpr (stmts_of ss)) → IfOk r (λ e. expr_of e ≡ unbraced (stmts_of (d ∷ [])))
braced_default (Ok e) d ss all h k made = made ∙ ap (λ l. BlockExpr (stmts_of l)) all ∙ braced_other (stmt_cases d) h k
braced_default (Err e) d ss all h k made = tt

two_braced : (s t : Stmt) (ss : Stmts) → BlockExpr (stmt s (stmt t ss)) ≡ unbraced (stmt s (stmt t ss))
two_braced (ExprStmt e) t ss = refl
two_braced (Block b) t ss = refl
two_braced _ t ss = refl

many_braced : (ss : List declared_stmt.Stmt) → length ss ≢ 1 → BlockExpr (stmts_of ss) ≡ unbraced (stmts_of ss)
many_braced [] h = refl
many_braced (s ∷ []) h = absurd (h refl)
many_braced (s ∷ t ∷ ss) h = two_braced (stmt_of s) (stmt_of t) (stmts_of ss)

pub braced_many : {E : Type 0} (r : Result declared_expr.Expr E) (ss : List declared_stmt.Stmt) (n : ℕ) → n ≡ length ss → n ≢ 1
    → IfOk r (λ e. expr_of e ≡ BlockExpr (stmts_of ss)) → IfOk r (λ e. expr_of e ≡ unbraced (stmts_of ss))
braced_many (Ok e) ss n is h made = made ∙ many_braced ss (λ q. h (is ∙ q))
braced_many (Err e) ss n is h made = tt

-- ---- operands

many_operands : (o : Expr) (xs : List declared_expr.Expr) → length xs ≢ 1 → exprs_of xs ≡ with_other o (exprs_of xs)
many_operands o [] h = refl
many_operands o (x ∷ []) h = absurd (h refl)
many_operands o (x ∷ y ∷ xs) h = refl

pub operands_many : (o : Expr) (xs : List declared_expr.Expr) (n : ℕ) → n ≡ length xs → n ≢ 1 → exprs_of xs ≡ with_other o (exprs_of xs)
operands_many o xs n is h = many_operands o xs (λ q. h (is ∙ q))

one_operand : (o : declared_expr.Expr) (xs : List declared_expr.Expr) → length xs ≡ 1 → exprs_of (xs ++ o ∷ []) ≡ with_other (expr_of o) (exprs_of xs)
one_operand o [] h = absurd (let z : 0 ≡ 1 = h in omega arith)
one_operand o (x ∷ []) h = refl
one_operand o (x ∷ y ∷ xs) h = absurd (let z : suc (suc (length xs)) ≡ 1 = h in omega arith)

pub operands_one : {E : Type 0} (r : Result (List declared_expr.Expr) E) (o : declared_expr.Expr) (xs : List declared_expr.Expr) (n : ℕ) → n ≡ length xs → n ≡ 1
    → IfOk r (λ ys. ys ≡ xs ++ o ∷ []) → IfOk r (λ ys. exprs_of ys ≡ with_other (expr_of o) (exprs_of xs))
operands_one (Ok ys) o xs n is h made = ap exprs_of made ∙ one_operand o xs (sym is ∙ h)
operands_one (Err e) o xs n is h made = tt

-- ---- texts

pub text_parts : (xs : List declared_expr.Expr) → xs ≢ [] → InterpolatedString (exprs_of xs) ≡ bare_text (exprs_of xs)
text_parts [] h = absurd (h refl)
text_parts (x ∷ xs) h = refl

-- ---- pointers with values

with_values : (name : Text) (vs : List declared_expr.Expr) → vs ≢ []
    → FnCall (called (codes "curry") (mark_of None)) (expr (pointer_literal name) (exprs_of vs)) ≡ curried_call name (exprs_of vs)
with_values name [] h = absurd (h refl)
with_values name (v ∷ vs) h = refl

pub curried : {E : Type 0} (r : Result declared_expr.Expr E) (name : Text) (given vs args all : List declared_expr.Expr) (pointer : declared_expr.Expr)
    → vs ≡ given → expr_of pointer ≡ pointer_literal name → args ≡ pointer ∷ [] → all ≡ args ++ vs → given ≢ []
    → IfOk r (λ e. expr_of e ≡ FnCall (called (codes "curry") (mark_of None)) (exprs_of all)) → IfOk r (λ e. expr_of e ≡ curried_call name (exprs_of given))
curried (Ok e) name given vs args all pointer v p a l h made =
    let called_with : exprs_of all ≡ expr (pointer_literal name) (exprs_of given) =
    ap exprs_of (l ∙ ap (λ x. x ++ vs) a) ∙ (λ i. expr (p i) (exprs_of (v i))) in
    made ∙ ap (FnCall (called (codes "curry") (mark_of None))) called_with ∙ with_values name given h
curried (Err e) name given vs args all pointer v p a l h made = tt

-- a pointer whose name a function may have
pub pointer_written : {E : Type 0} (r : Result declared_expr.Expr E) (f : Text) (vs : Values) → IfOk r (λ e. expr_of e ≡ curried_call f (literals_of vs)) → is_valid_name f ≡ true → IfOk r (λ e. expr_of e ≡ literal_of (PointerV f vs))
pointer_written r f vs h valid = subst (λ b. IfOk r (λ e. expr_of e ≡ cond b (curried_call f (literals_of vs)) (DynamicConstant (PointerV f vs)))) (sym valid) h
