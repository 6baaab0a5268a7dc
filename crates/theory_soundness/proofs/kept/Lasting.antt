-- What may be asked of every node so that it lasts, lasts over a derivation.
use Rattle.std.proofs.Common.{◌≡◌, ℕ, zero, suc, Bool, true, false, List, [], ◌∷◌, refl, sym, ap, ◌∙◌}
use Rattle.std.specs.Prelude.{not, ◌&&◌}
use Rattle.theory_meaning.specs.Desugar.{ends_in_call}
use Rattle.theory_rewriting.specs.Scripts.{has_root, is_place}
use Rattle.theory_meaning.specs.Shape.{keys, is_argument, is_rest, is_left_side}
use Rattle.theory_meaning.specs.Tree.{Expr, MethodCall, Dot, Index, And, Or, Coalesce, Exprs, count_exprs, Pairs, MaybeExpr, Arms, Stmt, Stmts}
use Rattle.theory_meaning.specs.Walk.{Node, OfExpr, Role, Rest, Around, left_role, right_role, whole, throughout, over_expr, over_exprs, over_pairs, over_maybe, over_arms, arm_at, arms_at, listed, over_stmt, over_stmts}
use Rattle.theory_rewriting.specs.Context.{Context, ListKind, ListContext}
use Rattle.theory_rewriting.specs.Rewriting.{ExprTo, same_expr, then_expr, by_expr_rule, in_text, in_array, in_map, in_braces, in_call, in_stray_method, in_chain, in_and, in_or, in_coalesce, ExprsTo, exprs_none, exprs_more, PairsTo, pairs_none, pairs_more, ChainTo, in_dot, in_index, BaseTo, base, ArgumentTo, same_argument, in_method, in_brackets, StepsTo, same_steps, last_method, last_index, more_dot, more_index, TargetTo, same_target, in_target, GuardTo, guard, MaybeTo, maybe_none, maybe_some, ArmsTo, arms_none, arms_more, StmtTo, same_stmt, then_stmt, by_stmt_rule, in_if, in_switch, in_while, in_do, in_for, in_var, in_assignment, in_block, in_try, in_expression, in_call_statement, in_break, in_return, in_import, RestTo, same_stmts, then_stmts, by_list_rule, in_head, in_tail, flag_forgotten}
use Rattle.theory_rewriting.proofs.rules.Lasting.{same_array, same_braces, same_call, same_if, same_block, same_expression, same_call_statement, same_and, same_or, same_coalesce, same_text, same_while, same_switch, same_map, same_method, same_dot, same_index, same_do, same_for, same_var, same_assignment, same_try, same_break, same_return, same_import, Lasting}
use Rattle.theory_soundness.proofs.kept.Standing.{table_stays}
use Rattle.theory_rewriting.proofs.rules.Expressions.{expr_rule}
use Rattle.theory_rewriting.proofs.rules.Statements.{stmt_rule}
use Rattle.theory_rewriting.proofs.rules.Lists.{list_rule}

-- arguments keep their number
pub same_count : {k : Context} {d d' : Bool} {es es' : Exprs} → ExprsTo k d d' es es' → count_exprs es ≡ count_exprs es'
same_count exprs_none = refl
same_count (exprs_more p q) = ap suc (same_count q)

-- a map keeps its keys
pub same_keys : {k : Context} {d d' : Bool} {ps ps' : Pairs} → PairsTo k d d' ps ps' → keys ps ≡ keys ps'
same_keys pairs_none = refl
same_keys (pairs_more {x = x} p q) = ap (λ ks. x ∷ ks) (same_keys q)

-- ---- a chain keeps its shape

rest_ends : (e : Expr) → is_rest false true e ≡ true
rest_ends (Dot f l r) = refl
rest_ends (Index f l r) = refl
rest_ends _ = refl

argument_fits : {k : Context} {dot d d' : Bool} {e e' : Expr} → ArgumentTo k dot d d' e e' → is_argument dot e ≡ is_argument dot e'
argument_fits same_argument = refl
argument_fits (in_method p) = refl
argument_fits (in_brackets p) = refl

pub rest_fits : {k : Context} {dot breaks d d' : Bool} {e e' : Expr} → StepsTo k dot breaks d d' e e' → is_rest dot breaks e ≡ is_rest dot breaks e'
rest_fits same_steps = refl
rest_fits (last_method p) = refl
rest_fits (last_index {e = e} {e' = e'} p) = rest_ends e ∙ sym (rest_ends e')
rest_fits (more_dot {f = f} {r' = r'} p q) = λ i. argument_fits p i && rest_fits q i
rest_fits (more_index {f = f} {r' = r'} p q) = λ i. argument_fits p i && rest_fits q i

no_call : (e : Expr) → ends_in_call false true e ≡ false
no_call (MethodCall c es) = refl
no_call (Dot f l r) = refl
no_call (Index f l r) = refl
no_call _ = refl

pub calls_fit : {k : Context} {dot breaks d d' : Bool} {e e' : Expr} → StepsTo k dot breaks d d' e e' → ends_in_call dot breaks e ≡ ends_in_call dot breaks e'
calls_fit same_steps = refl
calls_fit (last_method p) = refl
calls_fit (last_index {e = e} {e' = e'} p) = no_call e ∙ sym (no_call e')
calls_fit (more_dot p q) = calls_fit q
calls_fit (more_index p q) = calls_fit q

pub target_fits : {k : Context} {d d' : Bool} {e e' : Expr} → TargetTo k d d' e e' → is_left_side e ≡ is_left_side e'
target_fits same_target = refl
target_fits (in_target (in_dot p q)) = refl
target_fits (in_target (in_index p q)) = refl

-- a left side that was a place still is one, and nothing else becomes one
pub target_stays : {k : Context} {d d' : Bool} {e e' : Expr} → TargetTo k d d' e e' → is_place e ≡ is_place e'
target_stays same_target = refl
target_stays (in_target (in_dot {f = f} (base p u) q)) = λ i. rest_fits q i && (has_root (sym u i) && not (calls_fit q i))
target_stays (in_target (in_index {f = f} (base p u) q)) = λ i. rest_fits q i && (has_root (sym u i) && not (calls_fit q i))

abbrev standing : Bool → Role → Around
standing l r = record { in_loop = l; role = r }

module _ (P : Around → Node → Type 0) (lasts : (l : Bool) → Lasting P l) where
  and_again : {k : Context} {d d' : Bool} {a : Around} {es es' : Exprs} → ExprsTo k d d' es es' → P a (OfExpr (And es)) → P a (OfExpr (And es'))
  and_again exprs_none h = h
  and_again (exprs_more p q) h = (lasts true).again (same_and refl) h

  or_again : {k : Context} {d d' : Bool} {a : Around} {es es' : Exprs} → ExprsTo k d d' es es' → P a (OfExpr (Or es)) → P a (OfExpr (Or es'))
  or_again exprs_none h = h
  or_again (exprs_more p q) h = (lasts true).again (same_or refl) h

  coalesce_again : {k : Context} {d d' : Bool} {a : Around} {es es' : Exprs} → ExprsTo k d d' es es' → P a (OfExpr (Coalesce es)) → P a (OfExpr (Coalesce es'))
  coalesce_again exprs_none h = h
  coalesce_again (exprs_more p q) h = (lasts true).again (same_coalesce refl) h

  -- the arms that a table lists
  listed_keep : (as' bs : Arms) (a : Around) → ((i : ℕ) → arm_at (λ b. Unit {0}) (over_arms (throughout P) as') i a → arm_at (λ b. Unit {0}) (over_arms (throughout P) bs) i a) → (is : List ℕ) → arms_at (λ b. Unit {0}) (λ p q b. p b × q b) (over_arms (throughout P) as') is a → arms_at (λ b. Unit {0}) (λ p q b. p b × q b) (over_arms (throughout P) bs) is a
  listed_keep as' bs a f [] h = h
  listed_keep as' bs a f (i ∷ is) h = (f i h.0, listed_keep as' bs a f is h.1)

  mutual
    pub expr_keeps : {k : Context} {d d' : Bool} {e e' : Expr} (l : Bool) → ExprTo k d d' e e' → over_expr (throughout P) e (whole l) → over_expr (throughout P) e' (whole l)
    expr_keeps l same_expr h = h
    expr_keeps l (then_expr p q) h = expr_keeps l q (expr_keeps l p h)
    expr_keeps l (by_expr_rule r) h = (expr_rule r).keeps P l (lasts l) h
    expr_keeps l (in_text p) h = ((lasts l).again same_text h.0, exprs_keep l p h.1)
    expr_keeps l (in_array p) h = ((lasts l).again same_array h.0, exprs_keep l p h.1)
    expr_keeps l (in_map p) h = ((lasts l).again (same_map (same_keys p)) h.0, pairs_keep l p h.1)
    expr_keeps l (in_braces p) h = ((lasts l).again same_braces h.0, stmts_keep l p h.1)
    expr_keeps l (in_stray_method p) h = ((lasts l).again (same_method (same_count p)) h.0, exprs_keep l p h.1)
    expr_keeps l (in_call p) h = ((lasts l).again (same_call (same_count p)) h.0, exprs_keep l p h.1)
    expr_keeps l (in_chain p) h = chain_keeps l p h
    expr_keeps l (in_and p) h = (and_again p h.0, exprs_keep l p h.1)
    expr_keeps l (in_or p) h = (or_again p h.0, exprs_keep l p h.1)
    expr_keeps l (in_coalesce p) h = (coalesce_again p h.0, exprs_keep l p h.1)

    exprs_keep : {k : Context} {d d' : Bool} {es es' : Exprs} (l : Bool) → ExprsTo k d d' es es' → over_exprs (throughout P) es (whole l) → over_exprs (throughout P) es' (whole l)
    exprs_keep l exprs_none h = h
    exprs_keep l (exprs_more p q) h = (expr_keeps l p h.0, exprs_keep l q h.1)

    pairs_keep : {k : Context} {d d' : Bool} {ps ps' : Pairs} (l : Bool) → PairsTo k d d' ps ps' → over_pairs (throughout P) ps (whole l) → over_pairs (throughout P) ps' (whole l)
    pairs_keep l pairs_none h = h
    pairs_keep l (pairs_more p q) h = (expr_keeps l p h.0, pairs_keep l q h.1)

    chain_keeps : {k : Context} {d d' : Bool} {e e' : Expr} (l : Bool) → ChainTo k d d' e e' → over_expr (throughout P) e (whole l) → over_expr (throughout P) e' (whole l)
    chain_keeps l (in_dot p q) h = ((lasts l).again (same_dot (rest_fits q)) h.0, (base_keeps l p h.1.0, rest_keeps l q h.1.1))
    chain_keeps l (in_index p q) h = ((lasts l).again (same_index (rest_fits q)) h.0, (base_keeps l p h.1.0, rest_keeps l q h.1.1))

    base_keeps : {k : Context} {d d' : Bool} {e e' : Expr} (l : Bool) → BaseTo k d d' e e' → over_expr (throughout P) e (whole l) → over_expr (throughout P) e' (whole l)
    base_keeps l (base p r) h = expr_keeps l p h

    argument_keeps : {k : Context} {dot d d' : Bool} {e e' : Expr} (l : Bool) → ArgumentTo k dot d d' e e' → over_expr (throughout P) e (standing l (left_role (Rest dot))) → over_expr (throughout P) e' (standing l (left_role (Rest dot)))
    argument_keeps l same_argument h = h
    argument_keeps l (in_method p) h = ((lasts l).again (same_method (same_count p)) h.0, exprs_keep l p h.1)
    argument_keeps l (in_brackets p) h = expr_keeps l p h

    rest_keeps : {k : Context} {dot breaks d d' : Bool} {e e' : Expr} (l : Bool) → StepsTo k dot breaks d d' e e' → over_expr (throughout P) e (standing l (right_role dot breaks e)) → over_expr (throughout P) e' (standing l (right_role dot breaks e'))
    rest_keeps l same_steps h = h
    rest_keeps l (last_method {breaks = true} p) h = ((lasts l).again (same_method (same_count p)) h.0, exprs_keep l p h.1)
    rest_keeps l (last_method {breaks = false} p) h = ((lasts l).again (same_method (same_count p)) h.0, exprs_keep l p h.1)
    rest_keeps l (last_index p) h = expr_keeps l p h
    rest_keeps l (more_dot p q) h = ((lasts l).again (same_dot (rest_fits q)) h.0, (argument_keeps l p h.1.0, rest_keeps l q h.1.1))
    rest_keeps l (more_index p q) h = ((lasts l).again (same_index (rest_fits q)) h.0, (argument_keeps l p h.1.0, rest_keeps l q h.1.1))

    target_keeps : {k : Context} {d d' : Bool} {e e' : Expr} (l : Bool) → TargetTo k d d' e e' → over_expr (throughout P) e (whole l) → over_expr (throughout P) e' (whole l)
    target_keeps l same_target h = h
    target_keeps l (in_target p) h = chain_keeps l p h

    guard_keeps : {k : Context} {d d' : Bool} {e e' : Expr} (l : Bool) → GuardTo k d d' e e' → over_expr (throughout P) e (whole l) → over_expr (throughout P) e' (whole l)
    guard_keeps l (guard p u) h = expr_keeps l p h

    maybe_keeps : {k : Context} {d d' : Bool} {m m' : MaybeExpr} (l : Bool) → MaybeTo k d d' m m' → over_maybe (throughout P) m (whole l) → over_maybe (throughout P) m' (whole l)
    maybe_keeps l maybe_none h = h
    maybe_keeps l (maybe_some p) h = expr_keeps l p h

    arm_keeps : {k : Context} {d d' : Bool} {as' bs : Arms} (l : Bool) → ArmsTo k d d' as' bs → (i : ℕ) → arm_at (λ b. Unit {0}) (over_arms (throughout P) as') i (whole l) → arm_at (λ b. Unit {0}) (over_arms (throughout P) bs) i (whole l)
    arm_keeps l arms_none i h = h
    arm_keeps l (arms_more p q r) zero h = (expr_keeps l p h.0, expr_keeps l q h.1)
    arm_keeps l (arms_more p q r) (suc i) h = arm_keeps l r i h

    stmt_keeps : {k : Context} {w d d' : Bool} {s s' : Stmt} (l : Bool) → StmtTo k w d d' s s' → over_stmt (throughout P) s (whole l) → over_stmt (throughout P) s' (whole l)
    stmt_keeps l same_stmt h = h
    stmt_keeps l (then_stmt p q) h = stmt_keeps l q (stmt_keeps l p h)
    stmt_keeps l (by_stmt_rule r) h = (stmt_rule r).keeps P l (lasts l) h
    stmt_keeps l (in_if p q r) h = ((lasts l).again same_if h.0, (expr_keeps l p h.1.0, (stmts_keep l q h.1.1.0, stmts_keep l r h.1.1.1)))
    stmt_keeps l (in_switch {as' = as'} {bs = bs} {t = t} p q) h = ((lasts l).again (same_switch (table_stays q t)) h.0, (expr_keeps l p h.1.0, listed_keep as' bs (whole l) (arm_keeps l q) (listed t) h.1.1))
    stmt_keeps l (in_while p q) h = ((lasts l).again same_while h.0, (guard_keeps l p h.1.0, stmts_keep true q h.1.1))
    stmt_keeps l (in_do p q) h = ((lasts l).again same_do h.0, (expr_keeps l p h.1.0, stmts_keep true q h.1.1))
    stmt_keeps l (in_for p q) h = ((lasts l).again same_for h.0, (expr_keeps l p h.1.0, stmts_keep true q h.1.1))
    stmt_keeps l (in_var p) h = ((lasts l).again same_var h.0, expr_keeps l p h.1)
    stmt_keeps l (in_assignment p q) h = ((lasts l).again (same_assignment (target_fits p) (target_stays p)) h.0, (target_keeps l p h.1.0, expr_keeps l q h.1.1))
    stmt_keeps l (in_block p) h = ((lasts l).again same_block h.0, stmts_keep l p h.1)
    stmt_keeps l (in_try p q) h = ((lasts l).again same_try h.0, (stmts_keep l p h.1.0, stmts_keep l q h.1.1))
    stmt_keeps l (in_expression p) h = ((lasts l).again same_expression h.0, expr_keeps l p h.1)
    stmt_keeps l (in_call_statement p) h = ((lasts l).again (same_call_statement (same_count p)) h.0, exprs_keep l p h.1)
    stmt_keeps l (in_break p) h = ((lasts l).again same_break h.0, maybe_keeps l p h.1)
    stmt_keeps l (in_return p) h = ((lasts l).again same_return h.0, maybe_keeps l p h.1)
    stmt_keeps l (in_import p) h = ((lasts l).again same_import h.0, expr_keeps l p h.1)

    pub stmts_keep : {k : ListContext} {m : ListKind} {u d d' : Bool} {ss ss' : Stmts} (l : Bool) → RestTo k m u d d' ss ss' → over_stmts (throughout P) ss (whole l) → over_stmts (throughout P) ss' (whole l)
    stmts_keep l same_stmts h = h
    stmts_keep l (then_stmts p q) h = stmts_keep l q (stmts_keep l p h)
    stmts_keep l (by_list_rule r) h = (list_rule r).keeps P l (lasts l) h
    stmts_keep l (in_head p) h = (stmt_keeps l p h.0, h.1)
    stmts_keep l (in_tail p) h = (h.0, stmts_keep l p h.1)
    stmts_keep l (flag_forgotten p) h = stmts_keep l p h
