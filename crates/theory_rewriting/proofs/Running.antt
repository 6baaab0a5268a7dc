-- Runs over the parts of a node, one after another, and over the items of a list.
use Rattle.std.proofs.Common.{◌≡◌, ℕ, ◌≤◌, ◌<◌, ◌-◌, zero, suc, Bool, true, false, ◌&&◌, ◌||◌, List, Option, [], ◌∷◌, ◌++◌, length, drop, Some, None, refl, sym, ap, ◌∙◌, subst, arith, append_assoc, length-append}
use Rattle.std.proofs.Math.Seq.{drop-append_seam}
use Rattle.theory_meaning.specs.Constants.{constant_value}
use Rattle.theory_meaning.specs.Engine.{Engine}
use Rattle.rhai_base.specs.Value.{Text}
use Rattle.rhai_base.specs.Operators.{Operator}
use Rattle.theory_meaning.specs.Shape.{is_rest, is_argument, is_member, is_left_side, catch_name}
use Rattle.theory_meaning.specs.Walk.{over_arms, arm_at, arms_at, listed}
use Rattle.theory_meaning.specs.Tree.{ChainFlags, SwitchTable, Callee, Expr, InterpolatedString, ArrayOf, MapOf, Variable, ThisPtr, Property, MethodCall, BlockExpr, FnCall, Dot, Index, And, Or, Coalesce, Exprs, no_exprs, expr, Pairs, no_pairs, pair, MaybeExpr, no_expr, an_expr, Arms, no_arms, arm, Stmt, If, Switch, While, Do, For, Var, Assignment, Block, TryCatch, ExprStmt, FnCallStmt, BreakLoop, Return, Import, Stmts, no_stmts, stmt}
use Rattle.theory_rewriting.specs.Answering.{AnswersNothing, of_first}
use Rattle.theory_rewriting.specs.Clear.{IsClearExpr, AreClearExprs, AreClear}
use Rattle.theory_meaning.specs.Act.{OfName}
use Rattle.theory_rewriting.specs.Context.{Context, ListContext, open_list, closed_list, behind, knowing, naming, naming_some, naming_catch, known_behind, ListKind, Inside, wanted, wanted_before}
use Rattle.theory_rewriting.specs.Evals.{keeps_names}
use Rattle.theory_rewriting.specs.Known.{Known, globals_of}
use Rattle.theory_rewriting.specs.Residue.{when, IsReducedNode, IsReducedExpr, AreReducedArms, AreReduced, every_reached}
use Rattle.theory_rewriting.specs.Rewriting.{ExprTo, in_text, in_array, in_map, in_braces, in_call, in_stray_method, in_chain, in_and, in_or, in_coalesce, ExprsTo, exprs_none, exprs_more, PairsTo, pairs_none, pairs_more, in_dot, in_index, base, ArgumentTo, same_argument, in_method, in_brackets, StepsTo, same_steps, last_method, last_index, more_dot, more_index, same_target, in_target, guard, maybe_none, maybe_some, ArmsTo, arms_none, arms_more, StmtTo, in_if, in_switch, in_while, in_do, in_for, in_var, in_assignment, in_block, in_try, in_expression, in_call_statement, in_break, in_return, in_import, RestTo, same_stmts, then_stmts, in_head, in_tail, flag_forgotten, StmtsTo, same_expr}
use Rattle.theory_rewriting.specs.Normal.{IsNormal, AreNormalEach, AreSwept, any_gives_way}
use Rattle.theory_rewriting.proofs.Firing.{same_arms}
use Rattle.theory_rewriting.proofs.Flags as flag
use Rattle.theory_rewriting.proofs.Normal.{no_exprs_normal, exprs_normal, no_pairs_normal, pairs_normal, no_arms_normal, arms_normal, no_expr_normal, an_expr_normal, method_normal, brackets_normal, last_normal, more_dot_normal, more_index_normal, last_member_normal, no_steps_normal, member_normal, target_normal, place_normal, list_normal}
use Rattle.theory_rewriting.proofs.Keeping.{no_first}
use Rattle.theory_rewriting.specs.Steps.{AnswersNone, ArmsAnswerNone, Progress, here, Place, Anywhere, AsBase, AsGuard, ExprRun, ExprsRun, PairsRun, MaybeRun, ArmsRun, IsReducedSubject, SubjectRun, StepsRun, ArgumentRun, ChainRun, TargetRun, ListUnder, ArmRun, SidesRun, LinkRun, LoopRun, ForRun, TryRun, AssignRun, loop_front, catch_front, is_chain_node, is_method, ExprPartsRun, StmtRun, ItemRun, StmtPartsRun, EachRun, UnknownRun, ListRun, StmtsRun, ListPassed, SweepRun}
use Rattle.theory_rewriting.specs.SurelyUnit.{is_surely_unit}
use Rattle.theory_meaning.specs.Weight.{weight}
use Rattle.theory_rewriting.proofs.Clearing.{clear_tests, unclaimed, not_claimed}
use Rattle.theory_rewriting.proofs.Knowing.{behind_open, behind_closed, globals_append, globals_twice}
use Rattle.theory_rewriting.proofs.Weights.{stmts_fall}

-- ---- the same names are known, so one derivation goes after another

knows : {r : Engine} {ks ks1 : List Known} (F : Context → Type 0) → ks1 ≡ ks → F (knowing r ks1) → F (knowing r ks)
knows {r = r} F h x = subst (λ ks. F (knowing r ks)) h x

-- ---- expressions

pub exprs_none_run : {r : Engine} {s : Progress} → ExprsRun r s s no_exprs no_exprs
exprs_none_run = record { to = exprs_none; answers = tt; reduced = tt; clear = tt; known = refl; normal = λ h. no_exprs_normal }

pub exprs_more_run : {r : Engine} {s s1 s2 : Progress} {e e' : Expr} {es es' : Exprs} → ExprRun r Anywhere s s1 e e' → ExprsRun r s1 s2 es es' → ExprsRun r s s2 (expr e es) (expr e' es')
exprs_more_run {s1 = s1} {s2 = s2} {es = es} {es' = es'} p q = record {
  clear = (p.clear refl, subst (λ ks. AreClearExprs ks es') p.known q.clear);
  to = exprs_more p.to (knows (λ k. ExprsTo k s1.is_dirty s2.is_dirty es es') p.known q.to);
  answers = (p.answers, q.answers);
  reduced = (p.reduced, q.reduced);
  known = q.known ∙ p.known;
  normal = λ h. exprs_normal (p.normal (flag.exprs_kept q.to h).0) (knows (λ k. IsNormal (ExprsTo k) es') p.known (q.normal h));
}

-- ---- statements of a list: each knows what those before it declare

declared_front : (s : Stmt) (ks : List Known) → (front : List Known) × (known_behind s ks ≡ front ++ ks) × (globals_of front ≡ [])
declared_front (Var true exported x e) ks = (record { root = OfName x; value = constant_value e } ∷ [], refl, refl)
declared_front (Var false exported x e) ks = (record { root = OfName x; value = None } ∷ [], refl, refl)
declared_front _ ks = ([], refl, refl)

pub each_none_run : {r : Engine} {m : ListKind} {s : Progress} → EachRun r m s s no_stmts no_stmts
each_none_run = record { to = λ u. same_stmts; reduced = tt; clear = tt; front = []; names = refl; known = refl; normal = λ h. tt }

pub each_more_run : {r : Engine} {m : ListKind} {s s1 s2 : Progress} {x x' : Stmt} {ss ss' : Stmts} → ItemRun r (wanted_before (wanted m) ss) s s1 x x' → keeps_names x' ≡ true → EachRun r m s1 s2 ss ss' → EachRun r m s s2 (stmt x ss) (stmt x' ss')
each_more_run {r = r} {m = m} {s = s} {s1 = s1} {s2 = s2} {x' = x'} {ss = ss} {ss' = ss'} p h q =
    let f = declared_front x' s.known in
    record {
      to = λ u. then_stmts (in_head p.to) (in_tail (behind_it (λ k. RestTo k m (is_surely_unit x') s1.is_dirty s2.is_dirty ss ss') (q.to (is_surely_unit x'))));
      reduced = (p.reduced, q.reduced);
      clear = (p.clear, unclaimed (keeps_names x') (subst (λ ks. AreClear ks ss') p.known q.clear));
      front = q.front ++ f.0;
      names = globals_append q.front f.0 ∙ (λ i. q.names i ++ f.2 i);
      known = q.known ∙ ap (λ l. q.front ++ l) (p.known ∙ f.1) ∙ sym (append_assoc q.front f.0 s.known);
      normal = λ i.
          let z = flag.stmts_kept (q.to true) i in
          (subst (λ l. IsNormal (StmtTo (here r s) (wanted_before (wanted m) l)) x') z.1 (p.normal z.0), behind_it (λ k. AreNormalEach k m ss') (q.normal i));
    } where
      behind_it : (F : ListContext → Type 0) → F (open_list (here r s1)) → F (behind x' (open_list (here r s)))
      behind_it F y = subst F (behind_open x' s.known h) (knows (λ k. F (open_list k)) p.known y)

-- ---- and behind a call of `eval` the constants of the script's own list alone

pub unknown_none_run : {r : Engine} {m : ListKind} {s : Progress} → UnknownRun r m s s no_stmts no_stmts
unknown_none_run = record { to = λ u. same_stmts; reduced = tt; known = refl; normal = λ h. tt }

pub unknown_more_run : {r : Engine} {m : ListKind} {s s1 s2 : Progress} {x x' : Stmt} {ss ss' : Stmts} → s.known ≡ globals_of s.known → StmtRun r (wanted_before (wanted m) ss) s s1 x x' → UnknownRun r m s1 s2 ss ss' → UnknownRun r m s s2 (stmt x ss) (stmt x' ss')
unknown_more_run {r = r} {m = m} {s = s} {s1 = s1} {s2 = s2} {x = x} {x' = x'} {ss = ss} {ss' = ss'} h p q = record {
  to = λ u. then_stmts (in_head (knows (λ k. StmtTo k (wanted_before (wanted m) ss) s.is_dirty s1.is_dirty x x') h p.to)) (in_tail (onward (λ k. RestTo k m (is_surely_unit x') s1.is_dirty s2.is_dirty ss ss') (q.to (is_surely_unit x'))));
  reduced = (p.reduced, q.reduced);
  known = q.known ∙ p.known;
  normal = λ i.
      let z = flag.stmts_kept (q.to true) i in
      (subst (λ l. IsNormal (StmtTo (closed_list (here r s)).context (wanted_before (wanted m) l)) x') z.1 (knows (λ k. IsNormal (StmtTo k (wanted_before (wanted m) ss)) x') h (p.normal z.0)), onward (λ k. AreNormalEach k m ss') (q.normal i));
} where
  onward : (F : ListContext → Type 0) → F (closed_list (here r s1)) → F (behind x' (closed_list (here r s)))
  onward F y = subst (λ ks. F (record { context = knowing r ks; is_open = false })) (ap globals_of (p.known ∙ h)) y

-- a state, and whether something has changed beside it
abbrev pub beside : Progress → Progress → Progress
beside s u = record { is_dirty = u.is_dirty || s.is_dirty; known = s.known }

-- and where that is noted
pub each_noted : {r : Engine} {m : ListKind} {s s2 : Progress} {ss ss' : Stmts} (s1 u : Progress) → s2.is_dirty ≡ u.is_dirty || s1.is_dirty → s2.known ≡ s1.known → EachRun r m s (beside s1 u) ss ss' → EachRun r m s s2 ss ss'
each_noted {r = r} {m = m} {s = s} {ss = ss} {ss' = ss'} s1 u d k p = record {
  to = λ v. subst (λ b. RestTo (open_list (here r s)) m v s.is_dirty b ss ss') (sym d) (p.to v);
  reduced = p.reduced;
  clear = p.clear;
  front = p.front;
  names = p.names;
  known = k ∙ p.known;
  normal = λ h. p.normal (sym d ∙ h);
}

flagged : {k : ListContext} {m : ListKind} {u : Bool} {ss ss' : Stmts} (d d' : Bool) → RestTo k m u false d' ss ss' → RestTo k m u d (d' || d) ss ss'
flagged true true h = flag_forgotten h
flagged true false h = flag_forgotten h
flagged false true h = h
flagged false false h = h

both_clear : (a b : Bool) → a || b ≡ false → (a ≡ false) × (b ≡ false)
both_clear true b h = absurd cc
both_clear false b h = (refl, h)

pub each_ends_run : {r : Engine} {m : ListKind} {s s1 u u' : Progress} {x x' : Stmt} {ss ss' : Stmts} → ItemRun r (wanted_before (wanted m) ss) s s1 x x' → keeps_names x' ≡ false → u.is_dirty ≡ false → u.known ≡ globals_of s.known → UnknownRun r m u u' ss ss' → EachRun r m s (beside s1 u') (stmt x ss) (stmt x' ss')
each_ends_run {r = r} {m = m} {s = s} {s1 = s1} {u = u} {u' = u'} {x' = x'} {ss = ss} {ss' = ss'} p h d g q =
    let f = declared_front x' s.known in
    record {
      to = λ v. then_stmts (in_head p.to) (in_tail (flagged s1.is_dirty u'.is_dirty (behind_it (λ k. RestTo k m (is_surely_unit x') false u'.is_dirty ss ss') (subst (λ b. RestTo (closed_list (here r u)) m (is_surely_unit x') b u'.is_dirty ss ss') d (q.to (is_surely_unit x'))))));
      reduced = (p.reduced, q.reduced);
      clear = (p.clear, not_claimed (keeps_names x') _ h);
      front = f.0;
      names = f.2;
      known = p.known ∙ f.1;
      normal = λ i.
          let z = both_clear u'.is_dirty s1.is_dirty i in
          (subst (λ l. IsNormal (StmtTo (here r s) (wanted_before (wanted m) l)) x') (flag.stmts_kept (q.to true) z.0).1 (p.normal z.1), behind_it (λ k. AreNormalEach k m ss') (q.normal z.0));
    } where
      behind_it : (F : ListContext → Type 0) → F (closed_list (here r u)) → F (behind x' (open_list (here r s)))
      behind_it F y = subst F (behind_closed x' s.known h) (subst (λ ks. F (record { context = knowing r ks; is_open = false })) (ap globals_of g ∙ globals_twice s.known) y)

-- ---- the parts of an expression

pub array_run : {r : Engine} {s s' : Progress} {es es' : Exprs} → ExprsRun r s s' es es' → ExprPartsRun r s s' (ArrayOf es) (ArrayOf es')
array_run p = record { to = in_array p.to; place = refl; unit = refl; parts = (tt, (p.answers, p.reduced)); clear = tt; known = p.known; normal = p.normal }

pub braces_run : {r : Engine} {s s' : Progress} {ss ss' : Stmts} → StmtsRun r (Inside true) s s' ss ss' → ExprPartsRun r s s' (BlockExpr ss) (BlockExpr ss')
braces_run {ss' = ss'} p = record { to = in_braces p.to; place = refl; unit = refl; parts = (p.list, (no_first ss', p.reduced)); clear = p.clear; known = p.known; normal = p.normal }

-- a call keeps its callee
pub call_run : {r : Engine} {s s' : Progress} {c c' : Callee} {es es' : Exprs} → c' ≡ c → ExprsRun r s s' es es' → ExprPartsRun r s s' (FnCall c es) (FnCall c' es')
call_run {r = r} {s = s} {s' = s'} {c = c} {es = es} {es' = es'} h p =
    subst (λ x. ExprPartsRun r s s' (FnCall c es) (FnCall x es')) (sym h)
    (record { to = in_call p.to; place = refl; unit = refl; parts = (tt, (p.answers, p.reduced)); clear = tt; known = p.known; normal = p.normal })

-- a method call that stands by itself, which is no expression
pub method_run : {r : Engine} {s s' : Progress} {c c' : Callee} {es es' : Exprs} → c' ≡ c → ExprsRun r s s' es es' → ExprPartsRun r s s' (MethodCall c es) (MethodCall c' es')
method_run {r = r} {s = s} {s' = s'} {c = c} {es = es} {es' = es'} h p =
    subst (λ x. ExprPartsRun r s s' (MethodCall c es) (MethodCall x es')) (sym h)
    (record { to = in_stray_method p.to; place = refl; unit = refl; parts = (tt, (p.answers, p.reduced)); clear = tt; known = p.known; normal = p.normal })

pub text_run : {r : Engine} {s s' : Progress} {es es' : Exprs} → ExprsRun r s s' es es' → ExprPartsRun r s s' (InterpolatedString es) (InterpolatedString es')
text_run p = record { to = in_text p.to; place = refl; unit = refl; parts = (tt, (p.answers, p.reduced)); clear = tt; known = p.known; normal = p.normal }

pub map_run : {r : Engine} {s s' : Progress} {ps ps' : Pairs} {t t' : List Text} → t' ≡ t → PairsRun r s s' ps ps' → ExprPartsRun r s s' (MapOf ps t) (MapOf ps' t')
map_run {r = r} {s = s} {s' = s'} {ps = ps} {ps' = ps'} {t = t} h p =
    subst (λ x. ExprPartsRun r s s' (MapOf ps t) (MapOf ps' x)) (sym h)
    (record { to = in_map p.to; place = refl; unit = refl; parts = (tt, (p.answers, p.reduced)); clear = tt; known = p.known; normal = p.normal })

pub and_run : {r : Engine} {s s' : Progress} {es es' : Exprs} → ExprsRun r s s' es es' → ExprPartsRun r s s' (And es) (And es')
and_run p = record { to = in_and p.to; place = refl; unit = refl; parts = (tt, (p.answers, p.reduced)); clear = p.clear; known = p.known; normal = p.normal }

pub or_run : {r : Engine} {s s' : Progress} {es es' : Exprs} → ExprsRun r s s' es es' → ExprPartsRun r s s' (Or es) (Or es')
or_run p = record { to = in_or p.to; place = refl; unit = refl; parts = (tt, (p.answers, p.reduced)); clear = p.clear; known = p.known; normal = p.normal }

pub coalesce_run : {r : Engine} {s s' : Progress} {es es' : Exprs} → ExprsRun r s s' es es' → ExprPartsRun r s s' (Coalesce es) (Coalesce es')
coalesce_run p = record { to = in_coalesce p.to; place = refl; unit = refl; parts = (tt, (p.answers, p.reduced)); clear = p.clear; known = p.known; normal = p.normal }

-- ---- pairs, arms, an expression that may be left out

pub pairs_none_run : {r : Engine} {s : Progress} → PairsRun r s s no_pairs no_pairs
pairs_none_run = record { to = pairs_none; answers = tt; reduced = tt; known = refl; normal = λ h. no_pairs_normal }

pub pairs_more_run : {r : Engine} {s s1 s2 : Progress} {x : Text} {e e' : Expr} {ps ps' : Pairs} → ExprRun r Anywhere s s1 e e' → PairsRun r s1 s2 ps ps' → PairsRun r s s2 (pair x e ps) (pair x e' ps')
pairs_more_run {s1 = s1} {s2 = s2} {ps = ps} {ps' = ps'} p q = record {
  to = pairs_more p.to (knows (λ k. PairsTo k s1.is_dirty s2.is_dirty ps ps') p.known q.to);
  answers = (p.answers, q.answers);
  reduced = (p.reduced, q.reduced);
  known = q.known ∙ p.known;
  normal = λ h. pairs_normal (p.normal (flag.pairs_kept q.to h).0) (knows (λ k. IsNormal (PairsTo k) ps') p.known (q.normal h));
}

pub arms_none_run : {r : Engine} {s : Progress} → ArmsRun r s s no_arms no_arms
arms_none_run = record { to = arms_none; answers = tt; reduced = tt; known = refl; normal = λ h. no_arms_normal }

pub arm_run : {r : Engine} {s s1 s2 : Progress} {c a c' a' : Expr} → ExprRun r Anywhere s s1 c c' → ExprRun r Anywhere s1 s2 a a' → ArmRun r s s2 c a c' a'
arm_run {s1 = s1} {s2 = s2} {a = a} {a' = a'} p q = record {
  to = λ o. arms_more p.to (knows (λ k. ExprTo k s1.is_dirty s2.is_dirty a a') p.known q.to) o;
  answers = (p.answers, q.answers);
  reduced = (p.reduced, q.reduced);
  known = q.known ∙ p.known;
  normal = λ h. (p.normal (flag.expr_kept q.to h).0, knows (λ k. IsNormal (ExprTo k) a') p.known (q.normal h));
}

pub arms_more_run : {r : Engine} {s s1 s2 : Progress} {c a c' a' : Expr} {as' bs : Arms} → ArmRun r s s1 c a c' a' → ArmsRun r s1 s2 as' bs → ArmsRun r s s2 (arm c a as') (arm c' a' bs)
arms_more_run {s1 = s1} {s2 = s2} {as' = as'} {bs = bs} p q = record {
  to = p.to (knows (λ k. ArmsTo k s1.is_dirty s2.is_dirty as' bs) p.known q.to);
  answers = (p.answers, q.answers);
  reduced = (p.reduced, q.reduced);
  known = q.known ∙ p.known;
  normal = λ h. let z = p.normal (flag.arms_kept q.to h).0 in arms_normal z.0 z.1 (knows (λ k. IsNormal (ArmsTo k) bs) p.known (q.normal h));
}

pub maybe_none_run : {r : Engine} {s : Progress} → MaybeRun r s s no_expr no_expr
maybe_none_run = record { to = maybe_none; answers = tt; reduced = tt; known = refl; normal = λ h. no_expr_normal }

pub maybe_some_run : {r : Engine} {s s' : Progress} {e e' : Expr} → ExprRun r Anywhere s s' e e' → MaybeRun r s s' (an_expr e) (an_expr e')
maybe_some_run p = record { to = maybe_some p.to; answers = p.answers; reduced = p.reduced; known = p.known; normal = λ h. an_expr_normal (p.normal h) }

-- each arm that a table lists
listed_arm : (r : Engine) (as' : Arms) (i : ℕ) → AreReducedArms r as' → arm_at (Unit {0}) (over_arms (every_reached (IsReducedNode r)) as') i
listed_arm r no_arms i h = tt
listed_arm r (arm c a as') zero h = h.0
listed_arm r (arm c a as') (suc i) h = listed_arm r as' i h.1

listed_arms : (r : Engine) (as' : Arms) (is : List ℕ) → AreReducedArms r as' → arms_at (Unit {0}) (λ p q. p × q) (over_arms (every_reached (IsReducedNode r)) as') is
listed_arms r as' [] h = tt
listed_arms r as' (i ∷ is) h = (listed_arm r as' i h, listed_arms r as' is h)

listed_answer : (as' : Arms) (i : ℕ) → ArmsAnswerNone as' → arm_at (Unit {0}) (over_arms (of_first AnswersNothing) as') i
listed_answer no_arms i h = tt
listed_answer (arm c a as') zero h = h.0
listed_answer (arm c a as') (suc i) h = listed_answer as' i h.1

listed_answers : (as' : Arms) (is : List ℕ) → ArmsAnswerNone as' → arms_at (Unit {0}) (λ p q. p × q) (over_arms (of_first AnswersNothing) as') is
listed_answers as' [] h = tt
listed_answers as' (i ∷ is) h = (listed_answer as' i h, listed_answers as' is h)

-- ---- chains

both_true : (a b : Bool) → a && b ≡ true → (a ≡ true) × (b ≡ true)
both_true true b h = (refl, h)
both_true false b h = absurd cc

when_true : (b : Bool) (p : Type 0) → (b ≡ true → p) → when b p
when_true true p f = f refl
when_true false p f = tt

-- a base, then the steps
pub dot_run : {r : Engine} {s s1 s2 : Progress} {f : ChainFlags} {l l' e e' : Expr} → ExprRun r AsBase s s1 l l' → StepsRun r true f.breaks s1 s2 e e' → ChainRun r s s2 (Dot f l e) (Dot f l' e')
dot_run {s1 = s1} {s2 = s2} {f = f} {e = e} {e' = e'} p q = record {
  to = in_dot (base p.to p.stays) (knows (λ k. StepsTo k true f.breaks s1.is_dirty s2.is_dirty e e') p.known q.to);
  parts = (tt, (tt, (when_true (is_rest true f.breaks e') _ (λ h. (p.answers, q.answers h)), (p.reduced, when_true (is_rest true f.breaks e') _ q.reduced))));
  known = q.known ∙ p.known;
  normal = λ h. (p.normal (flag.rest_kept q.to h).0, knows (λ k. IsNormal (StepsTo k true f.breaks) e') p.known (q.normal h));
}

pub index_run : {r : Engine} {s s1 s2 : Progress} {f : ChainFlags} {l l' e e' : Expr} → ExprRun r AsBase s s1 l l' → StepsRun r false f.breaks s1 s2 e e' → ChainRun r s s2 (Index f l e) (Index f l' e')
index_run {s1 = s1} {s2 = s2} {f = f} {e = e} {e' = e'} p q = record {
  to = in_index (base p.to p.stays) (knows (λ k. StepsTo k false f.breaks s1.is_dirty s2.is_dirty e e') p.known q.to);
  parts = (tt, (tt, (when_true (is_rest false f.breaks e') _ (λ h. (p.answers, q.answers h)), (p.reduced, when_true (is_rest false f.breaks e') _ q.reduced))));
  known = q.known ∙ p.known;
  normal = λ h. (p.normal (flag.rest_kept q.to h).0, knows (λ k. IsNormal (StepsTo k false f.breaks) e') p.known (q.normal h));
}

-- as an expression
pub chain_dot_run : {r : Engine} {s s' : Progress} {f g : ChainFlags} {l l' e e' : Expr} → ChainRun r s s' (Dot f l e) (Dot g l' e') → ExprPartsRun r s s' (Dot f l e) (Dot g l' e')
chain_dot_run p = record { to = in_chain p.to; place = refl; unit = refl; parts = p.parts.1; clear = tt; known = p.known; normal = p.normal }

pub chain_index_run : {r : Engine} {s s' : Progress} {f g : ChainFlags} {l l' e e' : Expr} → ChainRun r s s' (Index f l e) (Index g l' e') → ExprPartsRun r s s' (Index f l e) (Index g l' e')
chain_index_run p = record { to = in_chain p.to; place = refl; unit = refl; parts = p.parts.1; clear = tt; known = p.known; normal = p.normal }

-- as a left side
pub target_run : {r : Engine} {s s' : Progress} {e e' : Expr} → ChainRun r s s' e e' → TargetRun r s s' e e'
target_run {e' = e'} p = record { to = in_target p.to; reduced = λ h. p.parts; known = p.known; normal = λ h. target_normal e' (p.normal h) }

place_reduced : (r : Engine) (e : Expr) → is_chain_node e ≡ false → is_left_side e ≡ true → IsReducedExpr r e
place_reduced r (Variable ns x) c h = (tt, (tt, (tt, tt)))
place_reduced r ThisPtr c h = (tt, (tt, (tt, tt)))
place_reduced r (Dot f l e) c h = absurd cc
place_reduced r (Index f l e) c h = absurd cc
place_reduced r _ c h = absurd cc

pub target_stays : {r : Engine} {s : Progress} {e : Expr} → is_chain_node e ≡ false → TargetRun r s s e e
target_stays {r = r} {e = e} c = record { to = same_target; reduced = λ h. place_reduced r e c h; known = refl; normal = λ h. place_normal c }

-- the argument of a node in the rest of a chain
pub member_run : {r : Engine} {s s' : Progress} {c c' : Callee} {es es' : Exprs} → c' ≡ c → ExprsRun r s s' es es' → ArgumentRun r true s s' (MethodCall c es) (MethodCall c' es')
member_run {r = r} {s = s} {s' = s'} {c = c} {es = es} {es' = es'} h p =
    subst (λ x. ArgumentRun r true s s' (MethodCall c es) (MethodCall x es')) (sym h)
    (record { to = in_method p.to; answers = λ h. refl; reduced = λ h. (tt, (tt, (p.answers, p.reduced))); known = p.known; normal = λ h. method_normal (p.normal h) })

member_reduced : (r : Engine) (e : Expr) → is_method e ≡ false → is_member e ≡ true → IsReducedExpr r e
member_reduced r (Property p) m h = (tt, (tt, (tt, tt)))
member_reduced r (MethodCall c es) m h = absurd cc
member_reduced r _ m h = absurd cc

member_answers : (e : Expr) → is_member e ≡ true → AnswersNone e
member_answers (Property p) h = refl
member_answers (MethodCall c es) h = refl
member_answers _ h = absurd cc

pub member_stays : {r : Engine} {s : Progress} {e : Expr} → is_method e ≡ false → ArgumentRun r true s s e e
member_stays {r = r} {e = e} m = record { to = same_argument; answers = member_answers e; reduced = λ h. member_reduced r e m h; known = refl; normal = λ h. member_normal m }

pub brackets_run : {r : Engine} {s s' : Progress} {e e' : Expr} → ExprRun r Anywhere s s' e e' → ArgumentRun r false s s' e e'
brackets_run p = record { to = in_brackets p.to; answers = λ h. p.answers; reduced = λ h. p.reduced; known = p.known; normal = λ h. brackets_normal (p.normal h) }

-- where a chain ends its right side is an argument
argument_ends : {k : Context} {dot d d' : Bool} {e e' : Expr} → ArgumentTo k dot d d' e e' → StepsTo k dot true d d' e e'
argument_ends same_argument = same_steps
argument_ends (in_method p) = last_method p
argument_ends (in_brackets p) = last_index p

rest_argument : (dot : Bool) (e : Expr) → is_rest dot true e ≡ true → is_argument dot e ≡ true
rest_argument false e h = refl
rest_argument true (Dot m a b) h = absurd cc
rest_argument true (Index m a b) h = absurd cc
rest_argument true _ h = h

pub last_run : {r : Engine} {dot : Bool} {s s' : Progress} {e e' : Expr} → ArgumentRun r dot s s' e e' → StepsRun r dot true s s' e e'
last_run {dot = dot} {e' = e'} p = record { to = argument_ends p.to; answers = λ h i. p.answers (rest_argument dot e' h); reduced = λ h. p.reduced (rest_argument dot e' h); known = p.known; normal = λ h. last_normal (p.normal h) }

-- where it goes on it is the next node
pub more_dot_run : {r : Engine} {dot : Bool} {s s1 s2 : Progress} {f : ChainFlags} {l l' e e' : Expr} → ArgumentRun r dot s s1 l l' → StepsRun r true f.breaks s1 s2 e e' → StepsRun r dot false s s2 (Dot f l e) (Dot f l' e')
more_dot_run {dot = dot} {s1 = s1} {s2 = s2} {f = f} {l' = l'} {e = e} {e' = e'} p q = record {
  to = more_dot p.to (knows (λ k. StepsTo k true f.breaks s1.is_dirty s2.is_dirty e e') p.known q.to);
  answers = λ h i. absurd cc;
  reduced = λ h. let z = both_true (is_argument dot l') (is_rest true f.breaks e') h in (tt, (tt, (when_true (is_rest true f.breaks e') _ (λ j. (p.answers z.0, q.answers j)), (p.reduced z.0, when_true (is_rest true f.breaks e') _ q.reduced))));
  known = q.known ∙ p.known;
  normal = λ h. more_dot_normal (p.normal (flag.rest_kept q.to h).0) (knows (λ k. IsNormal (StepsTo k true f.breaks) e') p.known (q.normal h));
}

pub more_index_run : {r : Engine} {dot : Bool} {s s1 s2 : Progress} {f : ChainFlags} {l l' e e' : Expr} → ArgumentRun r dot s s1 l l' → StepsRun r false f.breaks s1 s2 e e' → StepsRun r dot false s s2 (Index f l e) (Index f l' e')
more_index_run {dot = dot} {s1 = s1} {s2 = s2} {f = f} {l' = l'} {e = e} {e' = e'} p q = record {
  to = more_index p.to (knows (λ k. StepsTo k false f.breaks s1.is_dirty s2.is_dirty e e') p.known q.to);
  answers = λ h i. absurd cc;
  reduced = λ h. let z = both_true (is_argument dot l') (is_rest false f.breaks e') h in (tt, (tt, (when_true (is_rest false f.breaks e') _ (λ j. (p.answers z.0, q.answers j)), (p.reduced z.0, when_true (is_rest false f.breaks e') _ q.reduced))));
  known = q.known ∙ p.known;
  normal = λ h. more_index_normal (p.normal (flag.rest_kept q.to h).0) (knows (λ k. IsNormal (StepsTo k false f.breaks) e') p.known (q.normal h));
}

-- what is neither is a member behind a `.`, or nothing that can stand there
argument_goes_on : {k : Context} {d d' : Bool} {e e' : Expr} → ArgumentTo k true d d' e e' → StepsTo k true false d d' e e'
argument_goes_on same_argument = same_steps
argument_goes_on (in_method p) = last_method p

rest_member : (e : Expr) → is_chain_node e ≡ false → is_rest true false e ≡ true → is_member e ≡ true
rest_member (Dot m a b) c h = absurd cc
rest_member (Index m a b) c h = absurd cc
rest_member _ c h = h

pub last_member_run : {r : Engine} {s s' : Progress} {e e' : Expr} → is_chain_node e' ≡ false → ArgumentRun r true s s' e e' → StepsRun r true false s s' e e'
last_member_run {e' = e'} c p = record { to = argument_goes_on p.to; answers = λ h i. absurd cc; reduced = λ h. p.reduced (rest_member e' c h); known = p.known; normal = λ h. last_member_normal c (p.normal h) }

no_rest : (e : Expr) → is_chain_node e ≡ false → is_rest false false e ≡ true → ⊥
no_rest (Dot m a b) c h = cc
no_rest (Index m a b) c h = cc
no_rest _ c h = cc

pub no_steps_run : {r : Engine} {s : Progress} {e : Expr} → is_chain_node e ≡ false → StepsRun r false false s s e e
no_steps_run {e = e} c = record { to = same_steps; answers = λ h i. absurd cc; reduced = λ h. absurd (no_rest e c h); known = refl; normal = λ h. no_steps_normal c }

-- ---- what a list declared is forgotten at its end

pub drop_front : (front ks : List Known) → drop (length (front ++ ks) - length ks) (front ++ ks) ≡ ks
drop_front front ks = let e : length (front ++ ks) - length ks ≡ length front = omega (arith, length-append front ks) in ap (λ n. drop n (front ++ ks)) e ∙ drop-append_seam front ks

-- a whole list, its statements one after another, and then rewritten as it is everywhere
pub list_run : {r : Engine} {m : ListKind} {s s1 s2 s3 : Progress} {ss ss1 ss2 : Stmts} (n : ℕ) → n ≡ length s.known → EachRun r m s s1 ss ss1 → s2.is_dirty ≡ s1.is_dirty → s2.known ≡ drop (length s1.known - n) s1.known → ((k : Context) → StmtsTo k m s2.is_dirty s3.is_dirty ss1 ss2) → ((r : Engine) → AreReduced r ss1 → AreReduced r ss2) → ((ks : List Known) → AreClear ks ss1 → AreClear ks ss2) → any_gives_way ss2 ≡ false → s3.known ≡ s2.known → ListRun r m s s3 ss ss2
list_run {r = r} {m = m} {s = s} {s1 = s1} {ss = ss} {ss1 = ss1} n h p d k to reduced clear flat same = record {
  to = then_stmts (subst (λ b. RestTo (open_list (here r s)) m true s.is_dirty b ss ss1) (sym d) (p.to true)) (to (here r s));
  reduced = reduced r p.reduced;
  clear = clear s.known p.clear;
  normal = λ z. let y = flag.stmts_kept (to (here r s)) z in subst (AreNormalEach (open_list (here r s)) m) y.1 (p.normal (sym d ∙ y.0));
  flat = flat;
  known = same ∙ k ∙ ap (λ i. drop (length s1.known - i) s1.known) h ∙ ap (λ l. drop (length l - length s.known) l) p.known ∙ drop_front p.front s.known;
}

-- ---- a list, swept until no last `return` is bared

pub list_pass : {r : Engine} {m : ListKind} {s : Progress} {ss : Stmts} → ListPassed r m s s ss ss
list_pass = record { to = same_stmts; known = refl }

-- swept before its statements are gone over
pub list_swept : {r : Engine} {m : ListKind} {bared : Bool} {s s' : Progress} {ss ss' : Stmts} → SweepRun m bared s s' ss ss' → ListPassed r m s s' ss ss'
list_swept {r = r} {s = s} z = record { to = z.to (here r s); known = z.known }

-- one after another
pub list_then : {r : Engine} {m : ListKind} {s s1 s2 : Progress} {ss ss1 ss2 : Stmts} → ListPassed r m s s1 ss ss1 → ListPassed r m s1 s2 ss1 ss2 → ListPassed r m s s2 ss ss2
list_then {m = m} {s1 = s1} {s2 = s2} {ss1 = ss1} {ss2 = ss2} f g = record { to = then_stmts f.to (knows (λ k. StmtsTo k m s1.is_dirty s2.is_dirty ss1 ss2) f.known g.to); known = g.known ∙ f.known }

pub list_fits : {r : Engine} {m : ListKind} {s s' : Progress} {ss ss' : Stmts} → ListPassed r m s s' ss ss' → weight ss' ≤ weight ss
list_fits f = omega (arith, stmts_fall f.to)

passed_to : {r : Engine} {m : ListKind} {bared : Bool} {s s1 s2 s3 : Progress} {ss ss1 ss2 ss3 : Stmts} → ListPassed r m s s1 ss ss1 → ListRun r m s1 s2 ss1 ss2 → SweepRun m bared s2 s3 ss2 ss3 → StmtsTo (here r s) m s.is_dirty s3.is_dirty ss ss3
passed_to {r = r} {m = m} {s = s} {s1 = s1} {s2 = s2} {ss1 = ss1} {ss2 = ss2} f p z = then_stmts f.to (then_stmts (knows (λ k. StmtsTo k m s1.is_dirty s2.is_dirty ss1 ss2) f.known p.to) (z.to (here r s)))

pub list_again : {r : Engine} {m : ListKind} {s s1 s2 s3 : Progress} {ss ss1 ss2 ss3 : Stmts} → ListPassed r m s s1 ss ss1 → ListRun r m s1 s2 ss1 ss2 → SweepRun m true s2 s3 ss2 ss3 → ListPassed r m s s3 ss ss3
list_again f p z = record { to = passed_to f p z; known = z.known ∙ p.known ∙ f.known }

pub list_again_falls : {r : Engine} {m : ListKind} {s1 s2 s3 : Progress} {ss1 ss2 ss3 : Stmts} → ListRun r m s1 s2 ss1 ss2 → SweepRun m true s2 s3 ss2 ss3 → weight ss3 < weight ss1
list_again_falls p z = omega (arith, stmts_fall p.to, z.lighter refl)

pub list_done : {r : Engine} {m : ListKind} {s s1 s2 s3 : Progress} {ss ss1 ss2 ss3 : Stmts} → ListPassed r m s s1 ss ss1 → ListRun r m s1 s2 ss1 ss2 → SweepRun m false s2 s3 ss2 ss3 → StmtsRun r m s s3 ss ss3
list_done {r = r} {m = m} {s = s} {s1 = s1} {ss2 = ss2} {ss3 = ss3} f p z =
    let clear : AreClear s.known ss3 = z.clear refl s.known (subst (λ ks. AreClear ks ss2) f.known p.clear) in
    record {
      to = passed_to f p z;
      reduced = z.reduced refl r p.reduced;
      clear = clear;
      list = record { ends_where_left = z.ends_where_left; tests_no_constant = clear_tests _ _ clear; never_idles = z.never_idles };
      returns_nothing = z.returns_nothing;
      known = z.known ∙ p.known ∙ f.known;
      normal = λ h.
          let y = flag.stmts_kept (z.to (here r s)) h in
          let each = knows (λ k. AreNormalEach (open_list k) m ss2) f.known (p.normal y.0) in
          let swept = z.settled h (open_list (here r s)) (subst (AreNormalEach (open_list (here r s)) m) y.1 each) in
          subst (IsNormal (RestTo (open_list (here r s)) m true)) y.1 (list_normal ss2 each (subst (AreSwept m true) (sym y.1) swept) p.flat);
    }

-- ---- loops and names

pub while_run : {r : Engine} {w : Bool} {s s1 s2 : Progress} {e e' : Expr} {b b' : Stmts} → ExprRun r AsGuard s s1 e e' → StmtsRun r (Inside false) s1 s2 b b' → StmtPartsRun r w s s2 (While e b) (While e' b')
while_run {s1 = s1} {s2 = s2} {b = b} {b' = b'} p q = record {
  to = in_while (guard p.to p.stays) (knows (λ k. RestTo (open_list k) (Inside false) true s1.is_dirty s2.is_dirty b b') p.known q.to);
  parts = (q.list, ((p.answers, no_first b'), (p.reduced, q.reduced)));
  clear = tt;
  known = q.known ∙ p.known;
  normal = λ h. (p.normal (flag.stmts_kept q.to h).0, knows (λ k. IsNormal (RestTo (open_list k) (Inside false) true) b') p.known (q.normal h));
}

pub do_run : {r : Engine} {w n o : Bool} {s s1 s2 : Progress} {e e' : Expr} {b b' : Stmts} → ExprRun r Anywhere s s1 e e' → StmtsRun r (Inside false) s1 s2 b b' → StmtPartsRun r w s s2 (Do n o e b) (Do n o e' b')
do_run {s1 = s1} {s2 = s2} {b = b} {b' = b'} p q = record {
  to = in_do p.to (knows (λ k. RestTo (open_list k) (Inside false) true s1.is_dirty s2.is_dirty b b') p.known q.to);
  parts = (q.list, ((p.answers, no_first b'), (p.reduced, q.reduced)));
  clear = tt;
  known = q.known ∙ p.known;
  normal = λ h. (p.normal (flag.stmts_kept q.to h).0, knows (λ k. IsNormal (RestTo (open_list k) (Inside false) true) b') p.known (q.normal h));
}

pub for_run : {r : Engine} {w : Bool} {x : Text} {i : Option Text} {s s1 s2 : Progress} {e e' : Expr} {b b' : Stmts} → ExprRun r Anywhere s s1 e e' → ListUnder r (naming x (naming_some i (here r s1))) s1 s2 b b' → StmtPartsRun r w s s2 (For x i e b) (For x i e' b')
for_run {r = r} {x = x} {i = i} {s1 = s1} {s2 = s2} {b = b} {b' = b'} p q = record {
  to = in_for p.to (knows (λ k. RestTo (open_list (naming x (naming_some i k))) (Inside false) true s1.is_dirty s2.is_dirty b b') p.known q.to);
  parts = (q.list, ((p.answers, no_first b'), (p.reduced, q.reduced)));
  clear = tt;
  known = q.known ∙ p.known;
  normal = λ h. (p.normal (flag.stmts_kept q.to h).0, knows (λ k. IsNormal (RestTo (open_list (naming x (naming_some i k))) (Inside false) true) b') p.known (q.normal h));
}

pub try_run : {r : Engine} {w : Bool} {x : Expr} {s s1 s2 : Progress} {a a' b b' : Stmts} → StmtsRun r (Inside false) s s1 a a' → ListUnder r (naming_catch (catch_name x) (here r s1)) s1 s2 b b' → StmtPartsRun r w s s2 (TryCatch x a b) (TryCatch x a' b')
try_run {r = r} {x = x} {s1 = s1} {s2 = s2} {a' = a'} {b = b} {b' = b'} p q = record {
  to = in_try p.to (knows (λ k. RestTo (open_list (naming_catch (catch_name x) k)) (Inside false) true s1.is_dirty s2.is_dirty b b') p.known q.to);
  parts = ((p.list, q.list), ((no_first a', no_first b'), (p.reduced, q.reduced)));
  clear = tt;
  known = q.known ∙ p.known;
  normal = λ h. (p.normal (flag.stmts_kept q.to h).0, knows (λ k. IsNormal (RestTo (open_list (naming_catch (catch_name x) k)) (Inside false) true) b') p.known (q.normal h));
}

-- under names that are variables, which are pushed before and forgotten behind
pub listed_under : {r : Engine} {s s1 s2 s3 : Progress} {b b' : Stmts} (k : Context) (front : List Known) (n : ℕ) → k ≡ knowing r (front ++ s.known) → n ≡ length s.known → (s1.is_dirty ≡ s.is_dirty) × (s1.known ≡ front ++ s.known) → StmtsRun r (Inside false) s1 s2 b b' → s3.is_dirty ≡ s2.is_dirty → s3.known ≡ drop (length s2.known - n) s2.known → ListUnder r k s s3 b b'
listed_under {r = r} {s = s} {s1 = s1} {s2 = s2} {s3 = s3} {b = b} {b' = b'} k front n i h d q e j = record {
  to =
      subst (λ x. RestTo (open_list x) (Inside false) true s.is_dirty s3.is_dirty b b') (sym i)
      (subst (λ z. RestTo (open_list (knowing r (front ++ s.known))) (Inside false) true s.is_dirty z b b') (sym e)
      (subst (λ z. RestTo (open_list (knowing r (front ++ s.known))) (Inside false) true z s2.is_dirty b b') d.0
      (subst (λ ks. RestTo (open_list (knowing r ks)) (Inside false) true s1.is_dirty s2.is_dirty b b') d.1 q.to)));
  reduced = q.reduced;
  list = q.list;
  known = j ∙ ap (λ i. drop (length s2.known - i) s2.known) h ∙ ap (λ l. drop (length l - length s.known) l) (q.known ∙ d.1) ∙ drop_front front s.known;
  normal = λ z. subst (λ x. IsNormal (RestTo (open_list x) (Inside false) true) b') (sym i) (knows (λ k. IsNormal (RestTo (open_list k) (Inside false) true) b') d.1 (q.normal (sym e ∙ z)));
}

-- a loop's names, and a catch name
pub loop_names : (r : Engine) (x : Text) (i : Option Text) (ks : List Known) → naming x (naming_some i (knowing r ks)) ≡ knowing r (loop_front x i ++ ks)
loop_names r x None ks = refl
loop_names r x (Some y) ks = refl

pub catch_names : (r : Engine) (x : Option (Option Text)) (ks : List Known) → naming_catch x (knowing r ks) ≡ knowing r (catch_front x ++ ks)
catch_names r None ks = refl
catch_names r (Some None) ks = refl
catch_names r (Some (Some x)) ks = refl

pub var_run : {r : Engine} {w c o : Bool} {x : Text} {s s' : Progress} {e e' : Expr} → ExprRun r Anywhere s s' e e' → StmtPartsRun r w s s' (Var c o x e) (Var c o x e')
var_run p = record { to = in_var p.to; parts = (tt, (p.answers, p.reduced)); clear = tt; known = p.known; normal = p.normal }

pub assignment_run : {r : Engine} {w : Bool} {op : Option Operator} {s s1 s2 : Progress} {l l' e e' : Expr} → TargetRun r s s1 l l' → ExprRun r Anywhere s1 s2 e e' → StmtPartsRun r w s s2 (Assignment op l e) (Assignment op l' e')
assignment_run {s1 = s1} {s2 = s2} {l' = l'} {e = e} {e' = e'} p q = record {
  to = in_assignment p.to (knows (λ k. ExprTo k s1.is_dirty s2.is_dirty e e') p.known q.to);
  parts = when_true (is_left_side l') _ (λ h. (tt, (q.answers, (p.reduced h, q.reduced))));
  clear = tt;
  known = q.known ∙ p.known;
  normal = λ h. (p.normal (flag.expr_kept q.to h).0, knows (λ k. IsNormal (ExprTo k) e') p.known (q.normal h));
}

-- what decides a statement
decides : {r : Engine} {s s' : Progress} {e e' : Expr} → ExprRun r Anywhere s s' e e' → IsReducedSubject r s' e'
decides {r = r} {s = s} {s' = s'} {e' = e'} p = (
  (p.answers, p.reduced),
  (subst (λ ks. IsClearExpr ks e') (sym p.known) (p.clear refl), λ h. knows (λ k. IsNormal (ExprTo k) e') (sym p.known) (p.normal h)),
)

-- the subject of a `switch`, and its arms
pub subject_run : {r : Engine} {w : Bool} {as' : Arms} {t : SwitchTable} {s s' : Progress} {e e' : Expr} → ExprRun r Anywhere s s' e e' → SubjectRun r w s s' (Switch e as' t) (Switch e' as' t)
subject_run {as' = as'} p = record { to = in_switch p.to (same_arms as'); subject = decides p; known = p.known }

-- the condition of an `if`
pub condition_run : {r : Engine} {w : Bool} {a b : Stmts} {s s' : Progress} {e e' : Expr} → ExprRun r Anywhere s s' e e' → SubjectRun r w s s' (If e a b) (If e' a b)
condition_run p = record { to = in_if p.to same_stmts same_stmts; subject = decides p; known = p.known }

pub arms_run : {r : Engine} {w : Bool} {t : SwitchTable} {s s' : Progress} {e : Expr} {as' bs : Arms} → IsReducedSubject r s e → ArmsRun r s s' as' bs → StmtPartsRun r w s s' (Switch e as' t) (Switch e bs t)
arms_run {r = r} {t = t} {bs = bs} h q = record {
  to = in_switch same_expr q.to;
  parts = (tt, ((h.0.0, listed_answers bs (listed t) q.answers), (h.0.1, listed_arms r bs (listed t) q.reduced)));
  clear = tt;
  known = q.known;
  normal = λ z. (h.1.1 (flag.arms_kept q.to z).0, q.normal z);
}

pub break_run : {r : Engine} {w b o : Bool} {s s' : Progress} {m m' : MaybeExpr} → MaybeRun r s s' m m' → StmtPartsRun r w s s' (BreakLoop b o m) (BreakLoop b o m')
break_run p = record { to = in_break p.to; parts = (tt, (p.answers, p.reduced)); clear = tt; known = p.known; normal = p.normal }

pub return_run : {r : Engine} {w b o : Bool} {s s' : Progress} {m m' : MaybeExpr} → MaybeRun r s s' m m' → StmtPartsRun r w s s' (Return b o m) (Return b o m')
return_run p = record { to = in_return p.to; parts = (tt, (p.answers, p.reduced)); clear = tt; known = p.known; normal = p.normal }

pub import_run : {r : Engine} {w : Bool} {x : Text} {s s' : Progress} {e e' : Expr} → ExprRun r Anywhere s s' e e' → StmtPartsRun r w s s' (Import e x) (Import e' x)
import_run p = record { to = in_import p.to; parts = (tt, (p.answers, p.reduced)); clear = tt; known = p.known; normal = p.normal }

-- ---- the parts of a statement

pub call_statement_run : {r : Engine} {w : Bool} {s s' : Progress} {c c' : Callee} {es es' : Exprs} → c' ≡ c → ExprsRun r s s' es es' → StmtPartsRun r w s s' (FnCallStmt c es) (FnCallStmt c' es')
call_statement_run {r = r} {w = w} {s = s} {s' = s'} {c = c} {es = es} {es' = es'} h p =
    subst (λ x. StmtPartsRun r w s s' (FnCallStmt c es) (FnCallStmt x es')) (sym h)
    (record { to = in_call_statement p.to; parts = (tt, (p.answers, p.reduced)); clear = tt; known = p.known; normal = p.normal })

-- its blocks
pub if_run : {r : Engine} {w : Bool} {s s1 s2 : Progress} {e : Expr} {a a' b b' : Stmts} → IsReducedSubject r s e → StmtsRun r (Inside w) s s1 a a' → StmtsRun r (Inside w) s1 s2 b b' → StmtPartsRun r w s s2 (If e a b) (If e a' b')
if_run {w = w} {s1 = s1} {s2 = s2} {a' = a'} {b = b} {b' = b'} h q o = record {
  to = in_if same_expr q.to (knows (λ k. RestTo (open_list k) (Inside w) true s1.is_dirty s2.is_dirty b b') q.known o.to);
  parts = ((q.list, o.list), ((h.0.0, (no_first a', no_first b')), (h.0.1, (q.reduced, o.reduced))));
  clear = (h.1.0, (q.clear, subst (λ ks. AreClear ks b') q.known o.clear));
  known = o.known ∙ q.known;
  normal = λ z.
      let y = (flag.stmts_kept o.to z).0 in
      (h.1.1 (flag.stmts_kept q.to y).0, (q.normal y, knows (λ k. IsNormal (RestTo (open_list k) (Inside w) true) b') q.known (o.normal z)));
}

pub block_run : {r : Engine} {w : Bool} {s s' : Progress} {ss ss' : Stmts} → StmtsRun r (Inside w) s s' ss ss' → StmtPartsRun r w s s' (Block ss) (Block ss')
block_run {ss' = ss'} p = record { to = in_block p.to; parts = (p.list, (no_first ss', p.reduced)); clear = p.clear; known = p.known; normal = p.normal }

pub expression_run : {r : Engine} {w : Bool} {s s' : Progress} {e e' : Expr} → ExprRun r Anywhere s s' e e' → StmtPartsRun r w s s' (ExprStmt e) (ExprStmt e')
expression_run p = record { to = in_expression p.to; parts = (tt, (p.answers, p.reduced)); clear = p.clear refl; known = p.known; normal = p.normal }

-- a statement of a list, and then what it declares
pub item_run : {r : Engine} {w : Bool} {s s1 s2 : Progress} {x x' : Stmt} → StmtRun r w s s1 x x' → s2.is_dirty ≡ s1.is_dirty → s2.known ≡ known_behind x' s1.known → ItemRun r w s s2 x x'
item_run {r = r} {w = w} {s = s} {x = x} {x' = x'} p d h = record {
  to = subst (λ b. StmtTo (here r s) w s.is_dirty b x x') (sym d) p.to;
  reduced = p.reduced;
  clear = p.clear;
  known = h ∙ ap (known_behind x') p.known;
  normal = λ z. p.normal (sym d ∙ z);
}

-- ---- two parts one after another

pub sides_dot : {r : Engine} {s s' : Progress} {f : ChainFlags} {l l' e e' : Expr} → SidesRun r true f.breaks s s' l e l' e' → ChainRun r s s' (Dot f l e) (Dot f l' e')
sides_dot p = dot_run p.base p.steps

pub sides_index : {r : Engine} {s s' : Progress} {f : ChainFlags} {l l' e e' : Expr} → SidesRun r false f.breaks s s' l e l' e' → ChainRun r s s' (Index f l e) (Index f l' e')
sides_index p = index_run p.base p.steps

pub link_dot : {r : Engine} {outer : Bool} {s s' : Progress} {f : ChainFlags} {l l' e e' : Expr} → LinkRun r outer true f.breaks s s' l e l' e' → StepsRun r outer false s s' (Dot f l e) (Dot f l' e')
link_dot p = more_dot_run p.argument p.steps

pub link_index : {r : Engine} {outer : Bool} {s s' : Progress} {f : ChainFlags} {l l' e e' : Expr} → LinkRun r outer false f.breaks s s' l e l' e' → StepsRun r outer false s s' (Index f l e) (Index f l' e')
link_index p = more_index_run p.argument p.steps

pub loop_while : {r : Engine} {w : Bool} {s s' : Progress} {e e' : Expr} {b b' : Stmts} → LoopRun r AsGuard s s' e b e' b' → StmtPartsRun r w s s' (While e b) (While e' b')
loop_while p = while_run p.head p.body

pub loop_do : {r : Engine} {w n o : Bool} {s s' : Progress} {e e' : Expr} {b b' : Stmts} → LoopRun r Anywhere s s' e b e' b' → StmtPartsRun r w s s' (Do n o e b) (Do n o e' b')
loop_do p = do_run p.head p.body

-- what is no part of a node stays
pub for_kept : {r : Engine} {w : Bool} {x x' : Text} {i i' : Option Text} {s s' : Progress} {e e' : Expr} {b b' : Stmts} → x' ≡ x → i' ≡ i → ForRun r x i s s' e b e' b' → StmtPartsRun r w s s' (For x i e b) (For x' i' e' b')
for_kept {r = r} {w = w} {x = x} {x' = x'} {i = i} {s = s} {s' = s'} {e = e} {e' = e'} {b = b} {b' = b'} h j p =
    subst (λ y. StmtPartsRun r w s s' (For x i e b) (For x' y e' b')) (sym j)
    (subst (λ y. StmtPartsRun r w s s' (For x i e b) (For y i e' b')) (sym h) (for_run p.head p.body))

pub var_kept : {r : Engine} {w c o : Bool} {x x' : Text} {s s' : Progress} {e e' : Expr} → x' ≡ x → ExprRun r Anywhere s s' e e' → StmtPartsRun r w s s' (Var c o x e) (Var c o x' e')
var_kept {r = r} {w = w} {c = c} {o = o} {x = x} {s = s} {s' = s'} {e = e} {e' = e'} h p = subst (λ y. StmtPartsRun r w s s' (Var c o x e) (Var c o y e')) (sym h) (var_run p)

pub assign_kept : {r : Engine} {w : Bool} {op op' : Option Operator} {s s' : Progress} {l l' e e' : Expr} → op' ≡ op → AssignRun r s s' l e l' e' → StmtPartsRun r w s s' (Assignment op l e) (Assignment op' l' e')
assign_kept {r = r} {w = w} {op = op} {s = s} {s' = s'} {l = l} {l' = l'} {e = e} {e' = e'} h p = subst (λ y. StmtPartsRun r w s s' (Assignment op l e) (Assignment y l' e')) (sym h) (assignment_run p.target p.value)

pub try_kept : {r : Engine} {w : Bool} {x x' : Expr} {s s' : Progress} {a a' b b' : Stmts} → x' ≡ x → TryRun r (catch_name x) s s' a b a' b' → StmtPartsRun r w s s' (TryCatch x a b) (TryCatch x' a' b')
try_kept {r = r} {w = w} {x = x} {s = s} {s' = s'} {a = a} {a' = a'} {b = b} {b' = b'} h p = subst (λ y. StmtPartsRun r w s s' (TryCatch x a b) (TryCatch y a' b')) (sym h) (try_run p.body p.branch)

pub import_kept : {r : Engine} {w : Bool} {x x' : Text} {s s' : Progress} {e e' : Expr} → x' ≡ x → ExprRun r Anywhere s s' e e' → StmtPartsRun r w s s' (Import e x) (Import e' x')
import_kept {r = r} {w = w} {x = x} {s = s} {s' = s'} {e = e} {e' = e'} h p = subst (λ y. StmtPartsRun r w s s' (Import e x) (Import e' y)) (sym h) (import_run p)

-- where a chain ends (b) or goes on
pub steps_end : {r : Engine} {dot : Bool} {s s' : Progress} {e e' : Expr} (b : Bool) → b ≡ true → ArgumentRun r dot s s' e e' → StepsRun r dot b s s' e e'
steps_end {r = r} {dot = dot} {s = s} {s' = s'} {e = e} {e' = e'} b h p = subst (λ x. StepsRun r dot x s s' e e') (sym h) (last_run p)

pub steps_on : {r : Engine} {dot : Bool} {s s' : Progress} {e e' : Expr} (b : Bool) → b ≡ false → StepsRun r dot false s s' e e' → StepsRun r dot b s s' e e'
steps_on {r = r} {dot = dot} {s = s} {s' = s'} {e = e} {e' = e'} b h p = subst (λ x. StepsRun r dot x s s' e e') (sym h) p

pub argument_as : {r : Engine} {dot : Bool} {s s' : Progress} {e e' : Expr} (b : Bool) → b ≡ dot → ArgumentRun r dot s s' e e' → ArgumentRun r b s s' e e'
argument_as {r = r} {s = s} {s' = s'} {e = e} {e' = e'} b h p = subst (λ x. ArgumentRun r x s s' e e') (sym h) p

no_chain_after : {k : Context} {d d' : Bool} {e e' : Expr} → ArgumentTo k true d d' e e' → is_chain_node e ≡ false → is_chain_node e' ≡ false
no_chain_after same_argument h = h
no_chain_after (in_method p) h = refl

pub steps_member : {r : Engine} {s s' : Progress} {e e' : Expr} (b : Bool) → b ≡ true → is_chain_node e ≡ false → ArgumentRun r true s s' e e' → StepsRun r b false s s' e e'
steps_member {r = r} {s = s} {s' = s'} {e = e} {e' = e'} b h c p = subst (λ x. StepsRun r x false s s' e e') (sym h) (last_member_run (no_chain_after p.to c) p)

pub steps_none : {r : Engine} {s : Progress} {e : Expr} (b : Bool) → b ≡ false → is_chain_node e ≡ false → StepsRun r b false s s e e
steps_none {r = r} {s = s} {e = e} b h c = subst (λ x. StepsRun r x false s s e e) (sym h) (no_steps_run c)

pub both_sides : {r : Engine} {dot breaks : Bool} {s s1 s2 : Progress} {l l' e e' : Expr} → ExprRun r AsBase s s1 l l' → StepsRun r dot breaks s1 s2 e e' → SidesRun r dot breaks s s2 l e l' e'
both_sides {s1 = s1} p q = record { between = s1; base = p; steps = q }

pub both_links : {r : Engine} {outer dot breaks : Bool} {s s1 s2 : Progress} {l l' e e' : Expr} → ArgumentRun r outer s s1 l l' → StepsRun r dot breaks s1 s2 e e' → LinkRun r outer dot breaks s s2 l e l' e'
both_links {s1 = s1} p q = record { between = s1; argument = p; steps = q }

pub both_rounds : {r : Engine} {p : Place} {s s1 s2 : Progress} {e e' : Expr} {b b' : Stmts} → ExprRun r p s s1 e e' → StmtsRun r (Inside false) s1 s2 b b' → LoopRun r p s s2 e b e' b'
both_rounds {s1 = s1} p q = record { between = s1; head = p; body = q }

pub both_assigned : {r : Engine} {s s1 s2 : Progress} {l l' e e' : Expr} → TargetRun r s s1 l l' → ExprRun r Anywhere s1 s2 e e' → AssignRun r s s2 l e l' e'
both_assigned {s1 = s1} p q = record { between = s1; target = p; value = q }

-- a loop's names are pushed before its body, and forgotten behind it
pub counts : {r : Engine} {s s1 s2 s3 s4 : Progress} {e e' : Expr} {b b' : Stmts} (x : Text) (i : Option Text) (n : ℕ) → ExprRun r Anywhere s s1 e e' → n ≡ length s1.known → (s2.is_dirty ≡ s1.is_dirty) × (s2.known ≡ loop_front x i ++ s1.known) → StmtsRun r (Inside false) s2 s3 b b' → s4.is_dirty ≡ s3.is_dirty → s4.known ≡ drop (length s3.known - n) s3.known → ForRun r x i s s4 e b e' b'
counts {r = r} {s1 = s1} x i n p h d q e j = record { between = s1; head = p; body = listed_under _ (loop_front x i) n (loop_names r x i s1.known) h d q e j }

pub tries : {r : Engine} {s s1 s2 s3 s4 : Progress} {a a' b b' : Stmts} (x : Option (Option Text)) (n : ℕ) → StmtsRun r (Inside false) s s1 a a' → n ≡ length s1.known → (s2.is_dirty ≡ s1.is_dirty) × (s2.known ≡ catch_front x ++ s1.known) → StmtsRun r (Inside false) s2 s3 b b' → s4.is_dirty ≡ s3.is_dirty → s4.known ≡ drop (length s3.known - n) s3.known → TryRun r x s s4 a b a' b'
tries {r = r} {s1 = s1} x n p h d q e j = record { between = s1; body = p; branch = listed_under _ (catch_front x) n (catch_names r x s1.known) h d q e j }
