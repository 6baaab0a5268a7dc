-- What a tree was rewritten to does what the tree does: by induction on the derivation.
use Rattle.std.proofs.Common.{◌≡◌, ℕ, zero, suc, Bool, true, false, cond, [], ◌∷◌, List, Option, refl, sym, ap, ◌∙◌, subst}
use Rattle.std.specs.Prelude.{◌&&◌, slice_get}
use Rattle.rhai_base.specs.Value.{Text, Value, UnitV}
use Rattle.rhai_base.specs.Operators.{Operator}
use Rattle.theory_meaning.specs.Act.{EntryKind, Act, Acts, Only}
use Rattle.theory_meaning.specs.ActForms.{give}
use Rattle.theory_meaning.specs.Calls.{called}
use Rattle.theory_meaning.specs.Core as core
use Rattle.theory_meaning.specs.Desugar.{alias, callee_by, call_of, root_of, based, ends_in_call, part_target, guard_by, break_kind, core_expr, core_exprs, core_pairs, member_of, method_of, steps_of, target_of, core_arms, core_maybe, core_stmt, core_stmts}
use Rattle.theory_meaning.specs.Queries.{is_unit}
use Rattle.theory_meaning.specs.Shape.{is_unit as is_unit_value}
use Rattle.theory_meaning.specs.Shape.{is_chain, is_callable, is_table, is_left_side, keys, are_distinct, are_among, catch_name}
use Rattle.theory_meaning.specs.Meaning.{wanted_value, act, with_args, with_pairs, both, either, first_some, arm_acts, loop, assign, deed, line, acts}
use Rattle.theory_meaning.specs.Tree.{ChainFlags, Callee, Expr, UnitConstant, MethodCall, Dot, Index, Exprs, count_exprs, Pairs, MaybeExpr, Arms, Stmt, Stmts, no_stmts, stmt}
use Rattle.theory_rewriting.specs.Context.{Context, ListKind, Inside, wanted, wanted_before, ListContext}
use Rattle.theory_rewriting.specs.Rewriting.{ExprTo, same_expr, then_expr, by_expr_rule, in_text, in_array, in_map, in_braces, in_call, in_stray_method, in_chain, in_and, in_or, in_coalesce, ExprsTo, exprs_none, exprs_more, PairsTo, pairs_none, pairs_more, ChainTo, in_dot, in_index, base, ArgumentTo, same_argument, in_method, in_brackets, StepsTo, same_steps, last_method, last_index, more_dot, more_index, TargetTo, same_target, in_target, guard, MaybeTo, maybe_none, maybe_some, ArmsTo, arms_none, arms_more, StmtTo, same_stmt, then_stmt, by_stmt_rule, in_if, in_switch, in_while, in_do, in_for, in_var, in_assignment, in_block, in_try, in_expression, in_call_statement, in_break, in_return, in_import, RestTo, same_stmts, then_stmts, by_list_rule, in_head, in_tail, flag_forgotten}
use Rattle.theory_meaning.proofs.Congruent.{c_choose, c_while, c_do, c_round, c_for_all, MaybeAlike, no_arm_alike, arm_alike}
use Rattle.theory_soundness.proofs.simulation.Setting.{Setting, past, world}
use Rattle.theory_soundness.proofs.simulation.Simulation.{Simulates, SimulatesAll, all_refl, simulates_trans, simulates_refl, simulates_loop}
use Rattle.theory_soundness.proofs.simulation.Forms.{simulates_bind, simulates_if, all_line, Rest, after, SimulatesStmt, stmt_refl, stmt_trans, stmt_of_deed}
use Rattle.theory_soundness.proofs.simulation.Lists.{SimulatesList, list_of_all, list_refl, list_trans}
use Rattle.theory_soundness.proofs.simulation.Unwanted.{unwanted_if, unwanted_block}
use Rattle.theory_soundness.proofs.rules.Expressions.{expr_rule}
use Rattle.theory_soundness.proofs.rules.Statements.{stmt_rule}
use Rattle.theory_soundness.proofs.rules.Lists.{list_rule}
use Rattle.theory_soundness.proofs.soundness.Behind.{tail_sound}
use Rattle.theory_soundness.proofs.rules.Tables.{meant_again}
use Rattle.theory_soundness.proofs.soundness.Congruence.{Any, congruent, InsideAlike, StepAlike, step_refl, index_alike, method_alike, StepsAlike, steps_refl, last_alike, more_alike, chain_alike, target_alike, switch_alike, body_alike, rounds_alike, try_alike}
use Rattle.theory_soundness.proofs.kept.Lasting.{same_count, same_keys, rest_fits, calls_fit, target_fits}
use Rattle.theory_soundness.proofs.kept.Standing.{table_stays}

-- ---- nodes whose parts are rewritten

-- a call; b: whether it has a meaning
call_sound : {k : Context} (c : Setting k) (b : Bool) (f : core.Callee) (es es' : core.Exprs) → ((next : List Value → Act) → Simulates c (with_args (world c) es next) (with_args (world c) es' next)) → Simulates c (act (world c) (cond b (core.FnCall f es) core.Ill)) (act (world c) (cond b (core.FnCall f es') core.Ill))
call_sound c true f es es' h = h (λ vs. called (world c) f vs)
call_sound c false f es es' h = simulates_refl

counted_sound : {k : Context} (c : Setting k) (f : Callee) {n n' : ℕ} (es es' : core.Exprs) → n ≡ n' → ((next : List Value → Act) → Simulates c (with_args (world c) es next) (with_args (world c) es' next)) → Simulates c (act (world c) (call_of f n es)) (act (world c) (call_of f n' es'))
counted_sound c f {n = n} es es' e h = subst (λ m. Simulates c (act (world c) (call_of f n es)) (act (world c) (call_of f m es'))) e (call_sound c (is_callable f n) (callee_by f f.token) es es' h)

if_sound : {k : Context} (c : Setting k) (w : Bool) {e e' : core.Expr} {a a' b b' : core.Stmts} → Simulates c (act (world c) e) (act (world c) e') → SimulatesList c (Inside w) (acts (world c) w a UnitV) (acts (world c) w a' UnitV) → SimulatesList c (Inside w) (acts (world c) w b UnitV) (acts (world c) w b' UnitV) → SimulatesStmt c w (core.Does (core.If e a b)) (core.Does (core.If e' a' b'))
if_sound c true i h j = stmt_of_deed (simulates_bind i (λ v. simulates_if v h.closed j.closed))
if_sound c false {e = e} {e' = e'} {a = a} {a' = a'} {b = b} {b' = b'} i h j = record { before = λ p. unwanted_if p e e' a a' b b' i h.closed j.closed }

block_sound : {k : Context} (c : Setting k) (w : Bool) {ss ss' : core.Stmts} → SimulatesList c (Inside w) (acts (world c) w ss UnitV) (acts (world c) w ss' UnitV) → SimulatesStmt c w (core.Does (core.Block ss)) (core.Does (core.Block ss'))
block_sound c true h = stmt_of_deed h.closed
block_sound c false {ss = ss} {ss' = ss'} h = record { before = λ p. unwanted_block p ss ss' h.closed }

map_sound : {k : Context} (c : Setting k) (template : List Text) (ks ks' : List Text) (ps ps' : core.Pairs) → ks ≡ ks' → ((next : List (Text × Value) → Act) → Simulates c (with_pairs (world c) ps next) (with_pairs (world c) ps' next)) → Simulates c (act (world c) (cond (are_distinct ks && are_among ks template && are_among template ks) (core.MapOf ps) core.Ill)) (act (world c) (cond (are_distinct ks' && are_among ks' template && are_among template ks') (core.MapOf ps') core.Ill))
map_sound c template ks ks' ps ps' e h =
    subst (λ ls. Simulates c (act (world c) (cond (are_distinct ks && are_among ks template && are_among template ks) (core.MapOf ps) core.Ill)) (act (world c) (cond (are_distinct ls && are_among ls template && are_among template ls) (core.MapOf ps') core.Ill))) e (by (are_distinct ks && are_among ks template && are_among template ks)) where
      by : (b : Bool) → Simulates c (act (world c) (cond b (core.MapOf ps) core.Ill)) (act (world c) (cond b (core.MapOf ps') core.Ill))
      by true = h (λ vs. _)
      by false = simulates_refl

-- a statement with a test
test_sound : {k : Context} (c : Setting k) (w b b' : Bool) (x y : core.Deed) → b ≡ b' → Simulates c (deed (world c) x) (deed (world c) y) → SimulatesStmt c w (core.Does (cond b x core.IllDeed)) (core.Does (cond b' y core.IllDeed))
test_sound c w b b' x y e h = stmt_of_deed (meant_again c b b' x y (λ z. sym e ∙ z) h)

var_sound : {k : Context} {c : Setting k} {w b : Bool} {y : EntryKind} {x : Text} {e e' : core.Expr} → Simulates c (act (world c) e) (act (world c) e') → SimulatesStmt c w (core.Var y b x e) (core.Var y b x e')
var_sound h = record { before = λ rest. all_line h (λ v. all_refl) }

alias_sound : {k : Context} (c : Setting k) (w : Bool) (x : Text) (e e' : core.Expr) → Simulates c (act (world c) e) (act (world c) e') → SimulatesStmt c w (alias x e) (alias x e')
alias_sound c w [] e e' h = stmt_of_deed (simulates_bind (simulates_bind h (λ v. simulates_refl)) (λ v. simulates_refl))
alias_sound c w (x ∷ xs) e e' h = var_sound (simulates_bind h (λ v. simulates_refl))

-- ---- a guard

guard_is : (e : Expr) → is_unit e ≡ false → (x : core.Expr) → guard_by e x ≡ core.When x
guard_is UnitConstant h x = absurd (let z : true ≡ false = h in cc)
guard_is _ h x = refl

guard_always : (e : Expr) → is_unit e ≡ true → (x : core.Expr) → guard_by e x ≡ core.Always
guard_always UnitConstant h x = refl
guard_always _ h x = absurd (let z : false ≡ true = h in cc)

while_sound : {k : Context} (c : Setting k) (e e' : Expr) (ss ss' : Stmts) → Simulates c (act (world c) (core_expr c.in_loop e)) (act (world c) (core_expr c.in_loop e')) → is_unit e' ≡ is_unit e → InsideAlike k ss ss' → Simulates c (loop (world c) (guard_by e (core_expr c.in_loop e)) (acts (world c) false (core_stmts true ss) UnitV)) (loop (world c) (guard_by e' (core_expr c.in_loop e')) (acts (world c) false (core_stmts true ss') UnitV))
while_sound c e e' ss ss' h u j = by (is_unit e) refl where
  by : (b : Bool) → is_unit e ≡ b → Simulates c (loop (world c) (guard_by e (core_expr c.in_loop e)) (acts (world c) false (core_stmts true ss) UnitV)) (loop (world c) (guard_by e' (core_expr c.in_loop e')) (acts (world c) false (core_stmts true ss') UnitV))
  by true q =
      subst (λ g. Simulates c (loop (world c) g (acts (world c) false (core_stmts true ss) UnitV)) (loop (world c) (guard_by e' (core_expr c.in_loop e')) (acts (world c) false (core_stmts true ss') UnitV))) (sym (guard_always e q (core_expr c.in_loop e)))
      (subst (λ g. Simulates c (loop (world c) core.Always (acts (world c) false (core_stmts true ss) UnitV)) (loop (world c) g (acts (world c) false (core_stmts true ss') UnitV))) (sym (guard_always e' (u ∙ q) (core_expr c.in_loop e')))
      (simulates_loop (c_round (λ a b. Simulates c a b) Any (congruent c) _ _ (body_alike c ss ss' j))))
  by false q =
      subst (λ g. Simulates c (loop (world c) g (acts (world c) false (core_stmts true ss) UnitV)) (loop (world c) (guard_by e' (core_expr c.in_loop e')) (acts (world c) false (core_stmts true ss') UnitV))) (sym (guard_is e q (core_expr c.in_loop e)))
      (subst (λ g. Simulates c (loop (world c) (core.When (core_expr c.in_loop e)) (acts (world c) false (core_stmts true ss) UnitV)) (loop (world c) g (acts (world c) false (core_stmts true ss') UnitV))) (sym (guard_is e' (u ∙ q) (core_expr c.in_loop e')))
      (c_while (λ a b. Simulates c a b) Any (congruent c) _ _ _ _ h (body_alike c ss ss' j)))

-- ---- the shape of a chain

chain_fits : {k : Context} {dot d d' : Bool} {r r' : Expr} (f : ChainFlags) → StepsTo k dot f.breaks d d' r r' → is_chain dot f r ≡ is_chain dot f r'
chain_fits f h = rest_fits h

-- its last argument, of a `Dot` (dot) or an `Index`
abbrev last_step : (loop dot : Bool) → Expr → core.Step
last_step loop dot e = cond dot (member_of loop e) (core.Index (core_expr loop e))

steps_end : (loop : Bool) (f : ChainFlags) (p : core.Step) (r : Expr) → f.breaks ≡ true → steps_of loop false f p r ≡ core.last f.negated p
steps_end loop f p (Dot m l r) h = ap (λ b. cond b (core.last f.negated p) (core.more f.negated (core.Index (core_expr loop l)) (steps_of loop true m (member_of loop r) r))) h
steps_end loop f p (Index m l r) h = ap (λ b. cond b (core.last f.negated p) (core.more f.negated (core.Index (core_expr loop l)) (steps_of loop false m (core.Index (core_expr loop r)) r))) h
steps_end loop f p _ h = refl

-- behind a chain that goes on
goes_on : {k : Context} (c : Setting k) (b : Bool) (x x' y y' : core.Steps) → b ≡ false → StepsAlike c y y' → StepsAlike c (cond b x y) (cond b x' y')
goes_on c true x x' y y' e h = absurd (let z : true ≡ false = e in cc)
goes_on c false x x' y y' e h = h

member_sound : {k : Context} (c : Setting k) (f : Callee) (es es' : Exprs) → count_exprs es ≡ count_exprs es' → ((next : List Value → Act) → Simulates c (with_args (world c) (core_exprs c.in_loop es) next) (with_args (world c) (core_exprs c.in_loop es') next)) → StepAlike c (member_of c.in_loop (MethodCall f es)) (member_of c.in_loop (MethodCall f es'))
member_sound c f es es' e h =
    subst (λ n. StepAlike c (method_of f (count_exprs es) (core_exprs c.in_loop es)) (method_of f n (core_exprs c.in_loop es'))) e
    (method_alike c (is_callable f (count_exprs es)) f.name (core_exprs c.in_loop es) (core_exprs c.in_loop es') h)

-- ---- in a list

-- what comes after a list's last statement
rest_of : (b : Bool) → (rest : Rest b) × (after b rest ≡ (λ u. Only (give (wanted_value b u))))
rest_of true = ((λ v. Only (give v)), refl)
rest_of false = (Only (give UnitV), refl)

head_sound : {k : Context} (c : Setting k) (m : ListKind) (l l' : core.Stmt) (ss : Stmts) (v : Value) → SimulatesStmt c (wanted_before (wanted m) ss) l l' → SimulatesList c m (line (world c) l (λ u. acts (world c) (wanted m) (core_stmts c.in_loop ss) u)) (line (world c) l' (λ u. acts (world c) (wanted m) (core_stmts c.in_loop ss) u))
head_sound c m l l' no_stmts v h =
    let r = rest_of (wanted m) in
    let R : (Value → Acts) → Type 0 = λ f. SimulatesAll c (line (world c) l f) (line (world c) l' f) in
    list_of_all m (subst R r.1 (h.before r.0))
head_sound c m l l' (stmt t ss) v h = list_of_all m (h.before (acts (world c) (wanted m) (core_stmts c.in_loop (stmt t ss)) v))

-- ---- derivations

mutual
  pub expr_sound : {k : Context} {d d' : Bool} {e e' : Expr} → ExprTo k d d' e e' → (c : Setting k) → Simulates c (act (world c) (core_expr c.in_loop e)) (act (world c) (core_expr c.in_loop e'))
  expr_sound same_expr c = simulates_refl
  expr_sound (then_expr h j) c = simulates_trans (expr_sound h c) (expr_sound j c)
  expr_sound (by_expr_rule r) c = (expr_rule r).sound c
  expr_sound (in_text h) c = args_sound h c (λ vs. _)
  expr_sound (in_array h) c = args_sound h c (λ vs. _)
  expr_sound (in_map {ps = ps} {ps' = ps'} {template = template} h) c = map_sound c template (keys ps) (keys ps') (core_pairs c.in_loop ps) (core_pairs c.in_loop ps') (same_keys h) (λ next. pairs_sound h c next)
  expr_sound (in_braces h) c = (stmts_sound h c UnitV (λ z. refl)).closed
  expr_sound (in_stray_method p) c = simulates_refl
  expr_sound (in_call {c = f} {es = es} {es' = es'} h) c = counted_sound c f (core_exprs c.in_loop es) (core_exprs c.in_loop es') (same_count h) (λ next. args_sound h c next)
  expr_sound (in_chain h) c = chain_sound h c
  expr_sound (in_and h) c = both_sound h c
  expr_sound (in_or h) c = either_sound h c
  expr_sound (in_coalesce h) c = some_sound h c

  args_sound : {k : Context} {d d' : Bool} {es es' : Exprs} → ExprsTo k d d' es es' → (c : Setting k) (next : List Value → Act) → Simulates c (with_args (world c) (core_exprs c.in_loop es) next) (with_args (world c) (core_exprs c.in_loop es') next)
  args_sound exprs_none c next = simulates_refl
  args_sound (exprs_more h i) c next = simulates_bind (expr_sound h c) (λ v. args_sound i c (λ vs. next (v ∷ vs)))

  both_sound : {k : Context} {d d' : Bool} {es es' : Exprs} → ExprsTo k d d' es es' → (c : Setting k) → Simulates c (both (world c) (core_exprs c.in_loop es)) (both (world c) (core_exprs c.in_loop es'))
  both_sound exprs_none c = simulates_refl
  both_sound (exprs_more h i) c = simulates_bind (expr_sound h c) (λ v. simulates_if v (both_sound i c) simulates_refl)

  either_sound : {k : Context} {d d' : Bool} {es es' : Exprs} → ExprsTo k d d' es es' → (c : Setting k) → Simulates c (either (world c) (core_exprs c.in_loop es)) (either (world c) (core_exprs c.in_loop es'))
  either_sound exprs_none c = simulates_refl
  either_sound (exprs_more h i) c = simulates_bind (expr_sound h c) (λ v. simulates_if v simulates_refl (either_sound i c))

  some_sound : {k : Context} {d d' : Bool} {es es' : Exprs} → ExprsTo k d d' es es' → (c : Setting k) → Simulates c (first_some (world c) (core_exprs c.in_loop es)) (first_some (world c) (core_exprs c.in_loop es'))
  some_sound exprs_none c = simulates_refl
  some_sound (exprs_more h i) c = simulates_bind (expr_sound h c) (λ v. c_choose (λ a b. Simulates c a b) Any (congruent c) (is_unit_value v) _ _ (give v) (give v) (some_sound i c) simulates_refl)

  pairs_sound : {k : Context} {d d' : Bool} {ps ps' : Pairs} → PairsTo k d d' ps ps' → (c : Setting k) (next : List (Text × Value) → Act) → Simulates c (with_pairs (world c) (core_pairs c.in_loop ps) next) (with_pairs (world c) (core_pairs c.in_loop ps') next)
  pairs_sound pairs_none c next = simulates_refl
  pairs_sound (pairs_more {x = x} h i) c next = simulates_bind (expr_sound h c) (λ v. pairs_sound i c (λ vs. next ((x, v) ∷ vs)))

  chain_sound : {k : Context} {d d' : Bool} {e e' : Expr} → ChainTo k d d' e e' → (c : Setting k) → Simulates c (act (world c) (core_expr c.in_loop e)) (act (world c) (core_expr c.in_loop e'))
  chain_sound (in_dot {f = f} {l = l} {l' = l'} {r = r} {r' = r'} (base h u) i) c =
      let A = act (world c) (core_expr c.in_loop (Dot f l r)) in
      let sts = steps_of c.in_loop true f (member_of c.in_loop r') r' in
      subst (λ b. Simulates c A (act (world c) (cond b (core.Chain (based (root_of l') (core_expr c.in_loop l')) sts) core.Ill))) (chain_fits f i)
      (subst (λ o. Simulates c A (act (world c) (cond (is_chain true f r) (core.Chain (based o (core_expr c.in_loop l')) sts) core.Ill))) (sym u)
      (chain_alike c (is_chain true f r) (root_of l) (core_expr c.in_loop l) (core_expr c.in_loop l') (expr_sound h c) (steps_sound i c f refl)))
  chain_sound (in_index {f = f} {l = l} {l' = l'} {r = r} {r' = r'} (base h u) i) c =
      let A = act (world c) (core_expr c.in_loop (Index f l r)) in
      let sts = steps_of c.in_loop false f (core.Index (core_expr c.in_loop r')) r' in
      subst (λ b. Simulates c A (act (world c) (cond b (core.Chain (based (root_of l') (core_expr c.in_loop l')) sts) core.Ill))) (chain_fits f i)
      (subst (λ o. Simulates c A (act (world c) (cond (is_chain false f r) (core.Chain (based o (core_expr c.in_loop l')) sts) core.Ill))) (sym u)
      (chain_alike c (is_chain false f r) (root_of l) (core_expr c.in_loop l) (core_expr c.in_loop l') (expr_sound h c) (steps_sound i c f refl)))

  argument_sound : {k : Context} {dot d d' : Bool} {e e' : Expr} → ArgumentTo k dot d d' e e' → (c : Setting k) → StepAlike c (last_step c.in_loop dot e) (last_step c.in_loop dot e')
  argument_sound same_argument c = step_refl c _
  argument_sound (in_method {c = f} {es = es} {es' = es'} h) c = member_sound c f es es' (same_count h) (λ next. args_sound h c next)
  argument_sound (in_brackets {e = e} {e' = e'} h) c = index_alike c (core_expr c.in_loop e) (core_expr c.in_loop e') (expr_sound h c)

  steps_sound : {k : Context} {dot breaks d d' : Bool} {r r' : Expr} → StepsTo k dot breaks d d' r r' → (c : Setting k) (f : ChainFlags) → f.breaks ≡ breaks → StepsAlike c (steps_of c.in_loop dot f (last_step c.in_loop dot r) r) (steps_of c.in_loop dot f (last_step c.in_loop dot r') r')
  steps_sound same_steps c f z = steps_refl c _
  steps_sound (last_method {c = m} {es = es} {es' = es'} h) c f z = last_alike c f.negated (member_sound c m es es' (same_count h) (λ next. args_sound h c next))
  steps_sound (last_index {e = e} {e' = e'} h) c f z =
      let p = core.Index (core_expr c.in_loop e) in
      let p' = core.Index (core_expr c.in_loop e') in
      subst (λ sts. StepsAlike c sts (steps_of c.in_loop false f p' e')) (sym (steps_end c.in_loop f p e z))
      (subst (λ sts. StepsAlike c (core.last f.negated p) sts) (sym (steps_end c.in_loop f p' e' z))
      (last_alike c f.negated (index_alike c (core_expr c.in_loop e) (core_expr c.in_loop e') (expr_sound h c))))
  steps_sound (more_dot {f = m} h i) c f z = goes_on c f.breaks _ _ _ _ z (more_alike c f.negated (argument_sound h c) (steps_sound i c m refl))
  steps_sound (more_index {f = m} h i) c f z = goes_on c f.breaks _ _ _ _ z (more_alike c f.negated (argument_sound h c) (steps_sound i c m refl))

  target_sound : {k : Context} {d d' : Bool} {e e' : Expr} → TargetTo k d d' e e' → (c : Setting k) (op : Option Operator) (v : Value) → Simulates c (assign (world c) op (target_of c.in_loop e) v) (assign (world c) op (target_of c.in_loop e') v)
  target_sound same_target c op v = simulates_refl
  target_sound (in_target (in_dot {f = f} {l = l} {l' = l'} {r = r} {r' = r'} (base h u) i)) c op v =
      let A = assign (world c) op (target_of c.in_loop (Dot f l r)) v in
      let sts = steps_of c.in_loop true f (member_of c.in_loop r') r' in
      subst (λ b. Simulates c A (assign (world c) op (cond b (part_target (root_of l') (ends_in_call true f.breaks r') sts) core.IllTarget) v)) (chain_fits f i)
      (subst (λ o. Simulates c A (assign (world c) op (cond (is_chain true f r) (part_target o (ends_in_call true f.breaks r') sts) core.IllTarget) v)) (sym u)
      (subst (λ b. Simulates c A (assign (world c) op (cond (is_chain true f r) (part_target (root_of l) b sts) core.IllTarget) v)) (calls_fit i)
      (target_alike c (is_chain true f r) (root_of l) (ends_in_call true f.breaks r) (steps_sound i c f refl) op v)))
  target_sound (in_target (in_index {f = f} {l = l} {l' = l'} {r = r} {r' = r'} (base h u) i)) c op v =
      let A = assign (world c) op (target_of c.in_loop (Index f l r)) v in
      let sts = steps_of c.in_loop false f (core.Index (core_expr c.in_loop r')) r' in
      subst (λ b. Simulates c A (assign (world c) op (cond b (part_target (root_of l') (ends_in_call false f.breaks r') sts) core.IllTarget) v)) (chain_fits f i)
      (subst (λ o. Simulates c A (assign (world c) op (cond (is_chain false f r) (part_target o (ends_in_call false f.breaks r') sts) core.IllTarget) v)) (sym u)
      (subst (λ b. Simulates c A (assign (world c) op (cond (is_chain false f r) (part_target (root_of l) b sts) core.IllTarget) v)) (calls_fit i)
      (target_alike c (is_chain false f r) (root_of l) (ends_in_call false f.breaks r) (steps_sound i c f refl) op v)))

  maybe_sound : {k : Context} {d d' : Bool} {e e' : MaybeExpr} → MaybeTo k d d' e e' → (c : Setting k) → Simulates c (act (world c) (core_maybe c.in_loop e)) (act (world c) (core_maybe c.in_loop e'))
  maybe_sound maybe_none c = simulates_refl
  maybe_sound (maybe_some h) c = expr_sound h c

  arm_sound : {k : Context} {d d' : Bool} {as' bs : Arms} → ArmsTo k d d' as' bs → (c : Setting k) (i : ℕ) → MaybeAlike (λ a b. Simulates c a b) Any (congruent c) (slice_get (arm_acts (world c) (core_arms c.in_loop as')) i) (slice_get (arm_acts (world c) (core_arms c.in_loop bs)) i)
  arm_sound arms_none c i = no_arm_alike
  arm_sound (arms_more h i j) c zero = arm_alike (record { guard = expr_sound h c; answer = expr_sound i c })
  arm_sound (arms_more h i j) c (suc n) = arm_sound j c n

  stmt_sound : {k : Context} {w d d' : Bool} {s s' : Stmt} → StmtTo k w d d' s s' → (c : Setting k) → SimulatesStmt c w (core_stmt c.in_loop s) (core_stmt c.in_loop s')
  stmt_sound same_stmt c = stmt_refl
  stmt_sound (then_stmt h j) c = stmt_trans (stmt_sound h c) (stmt_sound j c)
  stmt_sound (by_stmt_rule r) c = (stmt_rule r).sound c
  stmt_sound {w = w} (in_if h i j) c = if_sound c w (expr_sound h c) (stmts_sound i c UnitV (λ z. refl)) (stmts_sound j c UnitV (λ z. refl))
  stmt_sound (in_switch {e = e} {e' = e'} {as' = as'} {bs = bs} {t = t} h i) c =
      stmt_of_deed (meant_again c (is_table as' t) (is_table bs t) (core.Switch (core_expr c.in_loop e) (core_arms c.in_loop as') t) (core.Switch (core_expr c.in_loop e') (core_arms c.in_loop bs) t) (table_stays i t)
      (simulates_bind (expr_sound h c) (λ v. switch_alike c (arm_acts (world c) (core_arms c.in_loop as')) (arm_acts (world c) (core_arms c.in_loop bs)) (arm_sound i c) t v)))
  stmt_sound (in_while {e = e} {e' = e'} {b = b} {b' = b'} (guard h u) i) c = stmt_of_deed (while_sound c e e' b b' (expr_sound h c) u (λ k. stmts_sound i k UnitV (λ z. refl)))
  stmt_sound (in_do {negated = n} {b = b} {b' = b'} h i) c =
      stmt_of_deed (c_do (λ x y. Simulates c x y) Any (congruent c) n _ _ _ _ (body_alike c b b' (λ k. stmts_sound i k UnitV (λ z. refl))) (expr_sound h c))
  stmt_sound (in_for {x = x} {i = n} {b = b} {b' = b'} h i) c = stmt_of_deed (simulates_bind (expr_sound h c) (λ v. c_for_all (λ y z. Simulates c y z) Any (congruent c) x n _ _ (rounds_alike c x n b b' (λ k. stmts_sound i k UnitV (λ z. refl))) v))
  stmt_sound (in_var h) c = var_sound (expr_sound h c)
  stmt_sound {w = w} (in_assignment {op = op} {l = l} {l' = l'} {e = e} {e' = e'} h i) c =
      test_sound c w (is_left_side l) (is_left_side l') (core.Assignment op (target_of c.in_loop l) (core_expr c.in_loop e)) (core.Assignment op (target_of c.in_loop l') (core_expr c.in_loop e')) (target_fits h)
      (simulates_bind (expr_sound i c) (λ v. target_sound h c op v))
  stmt_sound {w = w} (in_block h) c = block_sound c w (stmts_sound h c UnitV (λ z. refl))
  stmt_sound (in_try {x = x} {a = a} {a' = a'} {b = b} {b' = b'} h i) c = stmt_of_deed (try_alike c (catch_name x) a a' b b' (λ k. stmts_sound h k UnitV (λ z. refl)) (λ k. stmts_sound i k UnitV (λ z. refl)))
  stmt_sound (in_expression h) c = stmt_of_deed (expr_sound h c)
  stmt_sound (in_call_statement {c = f} {es = es} {es' = es'} h) c = stmt_of_deed (counted_sound c f (core_exprs c.in_loop es) (core_exprs c.in_loop es') (same_count h) (λ next. args_sound h c next))
  stmt_sound {w = w} (in_break {breaks = b} {m = m} {m' = m'} h) c =
      test_sound c w c.in_loop c.in_loop (core.Leave (break_kind b) (core_maybe c.in_loop m)) (core.Leave (break_kind b) (core_maybe c.in_loop m')) refl (simulates_bind (maybe_sound h c) (λ v. simulates_refl))
  stmt_sound (in_return h) c = stmt_of_deed (simulates_bind (maybe_sound h c) (λ v. simulates_refl))
  stmt_sound {w = w} (in_import {x = x} {e = e} {e' = e'} h) c = alias_sound c w x (core_expr c.in_loop e) (core_expr c.in_loop e') (expr_sound h c)

  pub stmts_sound : {k : ListContext} {m : ListKind} {u d d' : Bool} {ss ss' : Stmts} → RestTo k m u d d' ss ss' → (c : Setting k.context) (v : Value) → (u ≡ true → v ≡ UnitV) → SimulatesList c m (acts (world c) (wanted m) (core_stmts c.in_loop ss) v) (acts (world c) (wanted m) (core_stmts c.in_loop ss') v)
  stmts_sound same_stmts c v z = list_refl
  stmts_sound {m = m} (then_stmts h j) c v z = list_trans m (stmts_sound h c v z) (stmts_sound j c v z)
  stmts_sound (by_list_rule r) c v z = (list_rule r).sound c v z
  stmts_sound {m = m} (in_head {s = s} {s' = s'} {ss = ss} h) c v z = head_sound c m (core_stmt c.in_loop s) (core_stmt c.in_loop s') ss v (stmt_sound h c)
  stmts_sound {k = k} {m = m} (in_tail {s = s} h) c v z = tail_sound k c m s (λ u y. stmts_sound h (past k s c) u y)
  stmts_sound (flag_forgotten h) c v z = stmts_sound h c v z
