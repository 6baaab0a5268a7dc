-- Trees run as they do without what depends on how they are spelled.
use Rattle.std.proofs.Common.{◌≡◌, ℕ, zero, suc, Bool, true, false, cond, List, [], ◌∷◌, Option, Some, None, refl, sym, ap, ◌∙◌, subst}
use Rattle.std.specs.Prelude.{slice_get, pos, ◌^◌, nat_lt}
use Rattle.rhai_base.specs.Value.{Text, Value, UnitV, IntV}
use Rattle.rhai_base.specs.Operators.{Operator}
use Rattle.theory_meaning.specs.Act.{EntryKind, IsVariable, IsExport, IsAlias, CounterTooLarge, Root, World, Act, Fail, Scoped, Acts, Only, Named, Env}
use Rattle.theory_meaning.specs.ActForms.{give, unit, choose, if_true, ◌>>=◌, then_line}
use Rattle.theory_meaning.specs.Chains.{Access}
use Rattle.theory_meaning.specs.Control.{texts_joined, ArmActs, default_of, chosen, switch_on}
use Rattle.theory_meaning.specs.Constants.{is_literal_unit}
use Rattle.theory_meaning.specs.Core as core
use Rattle.theory_meaning.specs.Core.{Step, IllStep, Property, Index, Method, Steps, last, more}
use Rattle.theory_meaning.specs.Desugar.{break_kind, callee_by, name_kind, or_own, based, part_target, guard_by, try_by, alias, core_expr, core_exprs, core_pairs, core_arms, core_maybe, core_stmt, core_stmts, member_of, steps_of, target_of}
use Rattle.theory_meaning.specs.Meaning.{exporting, text, act, with_args, with_pairs, both, either, first_some, at_base, access, steps, assign_steps, assign, arm_acts, loop, deed, line, acts}
use Rattle.theory_meaning.specs.Places.{Current, at_root, without_place}
use Rattle.theory_meaning.specs.Relations.{OnlyAdds}
use Rattle.theory_meaning.specs.Shape.{is_unit, is_callable, is_map, is_table, is_left_side, catch_name}
use Rattle.theory_meaning.specs.Tree as tree
use Rattle.theory_meaning.proofs.Sequencing.{scoped_only}
use Rattle.theory_meaning.proofs.Congruent.{c_if, c_choose, c_unless, c_refreshed, c_applied, c_first, c_answer, c_while, c_do, c_for_all, c_try, c_round, RoundsAlike, MaybeAlike, no_arm_alike, arm_alike, ArmsAlike, no_arms_alike, arms_alike}
use Rattle.theory_spelling.specs.Bare.{in_braces, unbraced, evaluated, braced_if, has_role, as_side, as_guard, as_condition, has_true_default, with_condition_at, with_default, bare_flags, bare_text, with_other, bare_expr, bare_exprs, bare_pairs, bare_maybe, bare_arms, bare_stmt, bare_stmts}
use Rattle.theory_spelling.proofs.Acts.{Same, SameAll, Any, same_refl, same_path, same_trans, all_refl, all_trans, same_scoped, all_named, all_line, congruent, same_bind, same_braces}
use Rattle.theory_spelling.specs.Captures.{settled}
use Rattle.theory_spelling.proofs.Captures.{grouped_alike, settled_alike}
use Rattle.theory_spelling.proofs.Roles.{Plain, plain, plain_side, side, count_kept, map_kept, root_kept, left_kept, guard_kept, catch_kept, rest_kept, ends_kept, bare_table_arms, table_kept}
use Rattle.theory_spelling.proofs.Tables.{listed_deed}
use Rattle.theory_spelling.proofs.Values.{constant_kept}

-- ---- acts of nodes, from those of their parts

module _ (w : World) (env : Env) where
  args_refl : (es : core.Exprs) (f f' : List Value → Act) → ((vs : List Value) → Same w env (f vs) (f' vs)) → Same w env (with_args w es f) (with_args w es f')
  args_refl core.no_exprs f f' h = h []
  args_refl (core.expr e es) f f' h = same_bind same_refl (λ v. args_refl es _ _ (λ vs. h (v ∷ vs)))

  -- a step, whatever follows
  record StepAlike (p p' : Step) : Type 0 where
    pub access : (f f' : Access → Act) → ((r : Access) → Same w env (f r) (f' r)) → Same w env (access w p f) (access w p' f')

  step_refl : (p : Step) → StepAlike p p
  step_refl IllStep = record { access = λ f f' h. same_refl }
  step_refl (Property p) = record { access = λ f f' h. h _ }
  step_refl (Index e) = record { access = λ f f' h. same_bind same_refl (λ v. h _) }
  step_refl (Method m es) = record { access = λ f f' h. args_refl es _ _ (λ vs. h _) }

  step_path : {p p' : Step} → p ≡ p' → StepAlike p p'
  step_path {p = p} h = record { access = λ f f' k. same_trans (same_path (ap (λ q. access w q f) h)) ((step_refl _).access f f' k) }

  index_alike : (e e' : core.Expr) → Same w env (act w e) (act w e') → StepAlike (Index e) (Index e')
  index_alike e e' i = record { access = λ f f' h. same_bind i (λ v. h _) }

  method_alike : (b : Bool) (m : Text) (es es' : core.Exprs) → ((f f' : List Value → Act) → ((vs : List Value) → Same w env (f vs) (f' vs)) → Same w env (with_args w es f) (with_args w es' f')) → StepAlike (cond b (Method m es) IllStep) (cond b (Method m es') IllStep)
  method_alike false m es es' h = step_refl IllStep
  method_alike true m es es' h = record { access = λ f f' j. h _ _ (λ vs. j _) }

  -- steps, as an expression, and as what is written to
  record StepsAlike (sts sts' : Steps) : Type 0 where
    pub reads : (x : Current) → Same w env (steps w sts x) (steps w sts' x)
    pub writes : (op : Option Operator) (v : Value) (x : Current) → Same w env (assign_steps w op v sts x) (assign_steps w op v sts' x)

  steps_path : {sts sts' : Steps} → sts ≡ sts' → StepsAlike sts sts'
  steps_path h = record { reads = λ x. same_path (ap (λ q. steps w q x) h); writes = λ op v x. same_path (ap (λ q. assign_steps w op v q x) h) }

  steps_trans : {a b c : Steps} → StepsAlike a b → StepsAlike b c → StepsAlike a c
  steps_trans h k = record { reads = λ x. same_trans (h.reads x) (k.reads x); writes = λ op v x. same_trans (h.writes op v x) (k.writes op v x) }

  last_alike : (o : Bool) {p p' : Step} → StepAlike p p' → StepsAlike (last o p) (last o p')
  last_alike o h = record {
    reads = λ x. c_unless (Same w env) Any (congruent w env) o x _ _ (h.access _ _ (λ r. same_refl));
    writes = λ op v x. c_unless (Same w env) Any (congruent w env) o x _ _ (h.access _ _ (λ r. same_refl));
  }

  more_alike : (o : Bool) {p p' : Step} {sts sts' : Steps} → StepAlike p p' → StepsAlike sts sts' → StepsAlike (more o p sts) (more o p' sts')
  more_alike o h j = record {
    reads = λ x. c_unless (Same w env) Any (congruent w env) o x _ _ (h.access _ _ (λ r. c_refreshed (Same w env) Any (congruent w env) x _ _ (λ d. c_applied (Same w env) Any (congruent w env) w r d _ _ (λ y. j.reads y))));
    writes = λ op v x. c_unless (Same w env) Any (congruent w env) o x _ _ (h.access _ _ (λ r. c_refreshed (Same w env) Any (congruent w env) x _ _ (λ d. c_applied (Same w env) Any (congruent w env) w r d _ _ (λ y. j.writes op v y))));
  }

  link_alike : (breaks o : Bool) {p p' q q' : Step} {sts sts' : Steps} → StepAlike p p' → StepAlike q q' → StepsAlike sts sts' → StepsAlike (cond breaks (last o p) (more o q sts)) (cond breaks (last o p') (more o q' sts'))
  link_alike true o h k j = last_alike o h
  link_alike false o h k j = more_alike o k j

  -- chains
  base_alike : (o : Option Root) (e e' : core.Expr) → Same w env (act w e) (act w e') → (f f' : Current → Act) → ((x : Current) → Same w env (f x) (f' x)) → Same w env (at_base w (based o e) f) (at_base w (based o e') f')
  base_alike (Some r) e e' i f f' h = same_bind same_refl (λ v. h (at_root v r))
  base_alike None e e' i f f' h = same_bind i (λ v. h (without_place v))

  chain_by : (b : Bool) (o : Option Root) (e e' : core.Expr) {sts sts' : Steps} → Same w env (act w e) (act w e') → StepsAlike sts sts' → Same w env (act w (cond b (core.Chain (based o e) sts) core.Ill)) (act w (cond b (core.Chain (based o e') sts') core.Ill))
  chain_by false o e e' i h = same_refl
  chain_by true o e e' i h = base_alike o e e' i _ _ h.reads

  chain_alike : {b b' : Bool} {o o' : Option Root} (e e' : core.Expr) {sts sts' : Steps} → b ≡ b' → o ≡ o' → Same w env (act w e) (act w e') → StepsAlike sts sts' → Same w env (act w (cond b (core.Chain (based o e) sts) core.Ill)) (act w (cond b' (core.Chain (based o' e') sts') core.Ill))
  chain_alike {b' = b'} {o' = o'} e e' {sts = sts} h k i j =
      same_trans (same_path (λ n. act w (cond (h n) (core.Chain (based (k n) e) sts) core.Ill))) (chain_by b' o' e e' i j)

  part_alike : (o : Option Root) (call : Bool) {sts sts' : Steps} → StepsAlike sts sts' → (op : Option Operator) (v : Value) → Same w env (assign w op (part_target o call sts) v) (assign w op (part_target o call sts') v)
  part_alike None call h op v = same_refl
  part_alike (Some r) true h op v = same_refl
  part_alike (Some r) false h op v = same_bind same_refl (λ u. h.writes op v (at_root u r))

  target_by : (b : Bool) (o : Option Root) (call : Bool) {sts sts' : Steps} → StepsAlike sts sts' → (op : Option Operator) (v : Value) → Same w env (assign w op (cond b (part_target o call sts) core.IllTarget) v) (assign w op (cond b (part_target o call sts') core.IllTarget) v)
  target_by false o call h op v = same_refl
  target_by true o call h op v = part_alike o call h op v

  target_alike : {b b' : Bool} {o o' : Option Root} {call call' : Bool} {sts sts' : Steps} → b ≡ b' → o ≡ o' → call ≡ call' → StepsAlike sts sts' → (op : Option Operator) (v : Value) → Same w env (assign w op (cond b (part_target o call sts) core.IllTarget) v) (assign w op (cond b' (part_target o' call' sts') core.IllTarget) v)
  target_alike {b' = b'} {o' = o'} {call' = call'} {sts = sts} h k l j op v =
      same_trans (same_path (λ n. assign w op (cond (h n) (part_target (k n) (l n) sts) core.IllTarget) v)) (target_by b' o' call' j op v)

  -- calls and maps, by whether they have a meaning
  call_by : (b : Bool) (c : core.Callee) (es es' : core.Exprs) → ((f : List Value → Act) → Same w env (with_args w es f) (with_args w es' f)) → Same w env (act w (cond b (core.FnCall c es) core.Ill)) (act w (cond b (core.FnCall c es') core.Ill))
  call_by false c es es' h = same_refl
  call_by true c es es' h = h _

  map_by : (b : Bool) (ps ps' : core.Pairs) → ((f : List (Text × Value) → Act) → Same w env (with_pairs w ps f) (with_pairs w ps' f)) → Same w env (act w (cond b (core.MapOf ps) core.Ill)) (act w (cond b (core.MapOf ps') core.Ill))
  map_by false ps ps' h = same_refl
  map_by true ps ps' h = h _

  -- ---- `switch`

  arms_at : {as' bs : List ArmActs} → ((i : ℕ) → MaybeAlike (Same w env) Any (congruent w env) (slice_get as' i) (slice_get bs i)) → (is : List ℕ) → ArmsAlike (Same w env) Any (congruent w env) as' bs is
  arms_at h [] = no_arms_alike
  arms_at h (i ∷ is) = arms_alike (h i) (arms_at h is)

  maybe_refl : (a : Option ArmActs) → MaybeAlike (Same w env) Any (congruent w env) a a
  maybe_refl None = no_arm_alike
  maybe_refl (Some a) = arm_alike (record { guard = same_refl; answer = same_refl })

  maybe_trans : {a b c : Option ArmActs} → MaybeAlike (Same w env) Any (congruent w env) a b → MaybeAlike (Same w env) Any (congruent w env) b c → MaybeAlike (Same w env) Any (congruent w env) a c
  maybe_trans no_arm_alike no_arm_alike = no_arm_alike
  maybe_trans (arm_alike h) (arm_alike k) = arm_alike (record { guard = same_trans h.guard k.guard; answer = same_trans h.answer k.answer })

  default_alike : (as' bs : List ArmActs) → ((i : ℕ) → MaybeAlike (Same w env) Any (congruent w env) (slice_get as' i) (slice_get bs i)) → (o : Option ℕ) → Same w env (default_of as' o) (default_of bs o)
  default_alike as' bs h None = same_refl
  default_alike as' bs h (Some i) = c_answer (Same w env) Any (congruent w env) (h i)

  switch_alike : (as' bs : List ArmActs) → ((i : ℕ) → MaybeAlike (Same w env) Any (congruent w env) (slice_get as' i) (slice_get bs i)) → (t : tree.SwitchTable) (v : Value) → Same w env (switch_on as' t v) (switch_on bs t v)
  switch_alike as' bs h t v = c_first (Same w env) Any (congruent w env) (chosen t v) (arms_at h (chosen t v)) _ _ (default_alike as' bs h t.default)

  switch_by : (b : Bool) (e e' : core.Expr) (as' bs : core.Arms) (t : tree.SwitchTable) → Same w env (act w e) (act w e') → ((i : ℕ) → MaybeAlike (Same w env) Any (congruent w env) (slice_get (arm_acts w as') i) (slice_get (arm_acts w bs) i)) → Same w env (deed w (cond b (core.Switch e as' t) core.IllDeed)) (deed w (cond b (core.Switch e' bs t) core.IllDeed))
  switch_by false e e' as' bs t h k = same_refl
  switch_by true e e' as' bs t h k = same_bind h (λ v. switch_alike _ _ k t v)

  -- ---- loops and `try`

  when_same : (c c' : core.Expr) (p q : Acts) → Same w env (act w c) (act w c') → SameAll w env p q → Same w env (loop w (core.When c) p) (loop w (core.When c') q)
  when_same c c' p q h k = c_while (Same w env) Any (congruent w env) _ _ p q h (same_scoped k)

  always_same : (p q : Acts) → SameAll w env p q → Same w env (loop w core.Always p) (loop w core.Always q)
  always_same p q k = (congruent w env).loop _ _ (c_round (Same w env) Any (congruent w env) p q (same_scoped k))

  counter_by : (b : Bool) (i : Text) (v : Value) (p q : Acts) → SameAll w env p q → Same w env (Scoped (cond b (Named i IsVariable v p) (Only (Fail CounterTooLarge)))) (Scoped (cond b (Named i IsVariable v q) (Only (Fail CounterTooLarge))))
  counter_by false i v p q h = same_refl
  counter_by true i v p q h = same_scoped (all_named i IsVariable v h)

  rounds_alike : (x : Text) (i : Option Text) (p q : Acts) → SameAll w env p q → RoundsAlike (Same w env) Any (congruent w env) x i p q
  rounds_alike x None p q h k v = same_scoped (all_named x IsVariable v h)
  rounds_alike x (Some i) p q h k v = counter_by (nat_lt k (2 ^ 63)) i (IntV (pos k)) _ _ (all_named x IsVariable v h)

  try_alike : (o : Option (Option Text)) (p p' q q' : core.Stmts) → ((b : Bool) → SameAll w env (acts w b p UnitV) (acts w b p' UnitV)) → ((b : Bool) → SameAll w env (acts w b q UnitV) (acts w b q' UnitV)) → Same w env (deed w (try_by o p q)) (deed w (try_by o p' q'))
  try_alike None p p' q q' h k = same_refl
  try_alike (Some None) p p' q q' h k = c_try (Same w env) Any (congruent w env) None _ _ _ _ (same_scoped (h false)) (λ v. same_scoped (k false))
  try_alike (Some (Some x)) p p' q q' h k = c_try (Same w env) Any (congruent w env) (Some x) _ _ _ _ (same_scoped (h false)) (λ v. same_scoped (all_named x IsVariable v (k false)))

  exporting_same : (b : Bool) (x : Text) (v : Value) (p q : Acts) → SameAll w env p q → SameAll w env (exporting b x v p) (exporting b x v q)
  exporting_same true x v p q h = all_named x IsExport v h
  exporting_same false x v p q h = h

  var_same : (k : EntryKind) (b : Bool) (x : Text) {a a' : Act} (p q : Acts) → Same w env a a' → SameAll w env p q → SameAll w env (then_line a (λ v. Named x k v (exporting b x v p))) (then_line a' (λ v. Named x k v (exporting b x v q)))
  var_same k b x p q h j = all_line h (λ v. all_named x k v (exporting_same b x v p q j))

  alias_same : (x : Text) (e e' : core.Expr) (next next' : Value → Acts) → Same w env (act w e) (act w e') → ((v : Value) → SameAll w env (next v) (next' v)) → SameAll w env (line w (alias x e) next) (line w (alias x e') next')
  alias_same [] e e' next next' h k = all_line (same_bind (same_bind h (λ v. same_refl)) (λ v. same_refl)) k
  alias_same (c ∷ cs) e e' next next' h k = var_same IsAlias false (c ∷ cs) _ _ (same_bind h (λ v. same_refl)) (k UnitV)

-- ---- trees

module _ (w : World) (env : Env) (adds : OnlyAdds env) where
  -- braces that stay, and braces that go
  braces_alike : (loop : Bool) (e : tree.Expr) → Same w env (act w (core_expr loop (in_braces e))) (act w (core_expr loop e))
  braces_alike loop e = same_braces adds (act w (core_expr loop e))

  braced_alike : (loop b : Bool) (e : tree.Expr) → Same w env (act w (core_expr loop (braced_if b e))) (act w (core_expr loop e))
  braced_alike loop true e = braces_alike loop e
  braced_alike loop false e = same_refl

  unbraced_alike : (loop : Bool) (ss : tree.Stmts) → Same w env (act w (core_expr loop (unbraced ss))) (Scoped (acts w true (core_stmts loop ss) UnitV))
  unbraced_alike loop (tree.stmt (tree.ExprStmt e) tree.no_stmts) = record { at = λ s t. sym ((braces_alike loop e).at s t) }
  unbraced_alike loop (tree.stmt (tree.Block ss) tree.no_stmts) = record { at = λ s t. sym ((same_braces adds (Scoped (acts w true (core_stmts loop ss) UnitV))).at s t) }
  unbraced_alike loop _ = same_refl

  evaluated_alike : (loop : Bool) (e : tree.Expr) (next : Value → Acts) → SameAll w env (line w (core_stmt loop (evaluated e)) next) (then_line (act w (core_expr loop e)) next)
  evaluated_alike loop (tree.BlockExpr ss) next = all_refl
  evaluated_alike loop _ next = all_refl

  ast_alike : (loop : Bool) (es : tree.Exprs) → Same w env (act w (core_expr loop (bare_text es))) (with_args w (core_exprs loop es) (text w))
  unfolding texts_joined
  ast_alike loop tree.no_exprs = same_refl
  ast_alike loop (tree.expr e es) = same_refl

  noop_alike : Same w env (Scoped (Only unit)) unit
  noop_alike = record { at = λ s t. scoped_only w env adds unit s t }

  -- one operand, and another that changes nothing
  both_other : (loop : Bool) (es : tree.Exprs) → Same w env (both w (core_exprs loop (with_other (tree.BoolConstant true) es))) (both w (core_exprs loop es))
  both_other loop (tree.expr e tree.no_exprs) = same_bind same_refl (λ v. c_if (Same w env) Any (congruent w env) v _ _ _ _ (record { at = λ s t. refl }) same_refl)
  both_other loop _ = same_refl

  either_other : (loop : Bool) (es : tree.Exprs) → Same w env (either w (core_exprs loop (with_other (tree.BoolConstant false) es))) (either w (core_exprs loop es))
  either_other loop (tree.expr e tree.no_exprs) = same_bind same_refl (λ v. c_if (Same w env) Any (congruent w env) v _ _ _ _ same_refl (record { at = λ s t. refl }))
  either_other loop _ = same_refl

  some_other : (loop : Bool) (es : tree.Exprs) → Same w env (first_some w (core_exprs loop (with_other tree.UnitConstant es))) (first_some w (core_exprs loop es))
  some_other loop (tree.expr e tree.no_exprs) = same_bind same_refl (λ v. c_choose (Same w env) Any (congruent w env) (is_unit v) (give UnitV >>= λ u. choose (is_unit u) unit (give u)) unit (give v) (give v) (record { at = λ s t. refl }) same_refl)
  some_other loop _ = same_refl

  side_by : (loop had : Bool) (e e' : tree.Expr) → Same w env (act w (core_expr loop e)) (act w (core_expr loop e')) → Same w env (act w (core_expr loop (as_side had e))) (act w (core_expr loop e'))
  side_by loop had e e' h = same_trans (braced_alike loop _ e) h

  condition_by : (loop had : Bool) (e e' : tree.Expr) → Same w env (act w (core_expr loop e)) (act w (core_expr loop e')) → Same w env (act w (core_expr loop (as_condition had e))) (act w (core_expr loop e'))
  condition_by loop had e e' h = same_trans (braced_alike loop _ e) h

  -- ---- what is shown of each tree, wherever it stands

  -- its value, as the argument of a `Dot`, as what stands at the right in a chain, and as a left side
  record ExprAlike (e : tree.Expr) : Type 0 where
    pub value : (around : Bool) → Same w env (act w (core_expr around (bare_expr e))) (act w (core_expr around e))
    pub member : (around : Bool) → StepAlike w env (member_of around (side e)) (member_of around e)
    pub rest : (around dot : Bool) (k : tree.ChainFlags) {p p' : Step} → StepAlike w env p p' → StepsAlike w env (steps_of around dot (bare_flags dot k e) p (side e)) (steps_of around dot k p' e)
    pub left : (around : Bool) (op : Option Operator) (v : Value) → Same w env (assign w op (target_of around (side e)) v) (assign w op (target_of around e) v)

  record ExprsAlike (es : tree.Exprs) : Type 0 where
    pub args : (around : Bool) (f f' : List Value → Act) → ((vs : List Value) → Same w env (f vs) (f' vs)) → Same w env (with_args w (core_exprs around (bare_exprs es)) f) (with_args w (core_exprs around es) f')
    pub both : (around : Bool) → Same w env (both w (core_exprs around (bare_exprs es))) (both w (core_exprs around es))
    pub either : (around : Bool) → Same w env (either w (core_exprs around (bare_exprs es))) (either w (core_exprs around es))
    pub some : (around : Bool) → Same w env (first_some w (core_exprs around (bare_exprs es))) (first_some w (core_exprs around es))

  record PairsAlike (ps : tree.Pairs) : Type 0 where
    pub pairs : (around : Bool) (f : List (Text × Value) → Act) → Same w env (with_pairs w (core_pairs around (bare_pairs ps)) f) (with_pairs w (core_pairs around ps) f)

  record MaybeExprAlike (m : tree.MaybeExpr) : Type 0 where
    pub value : (around : Bool) → Same w env (act w (core_maybe around (bare_maybe m))) (act w (core_maybe around m))

  record ArmsTreeAlike (as' : tree.Arms) : Type 0 where
    pub arm : (around : Bool) (i : ℕ) → MaybeAlike (Same w env) Any (congruent w env) (slice_get (arm_acts w (core_arms around (bare_arms as'))) i) (slice_get (arm_acts w (core_arms around as')) i)

  record StmtAlike (s : tree.Stmt) : Type 0 where
    pub line : (around : Bool) (next next' : Value → Acts) → ((v : Value) → SameAll w env (next v) (next' v)) → SameAll w env (line w (core_stmt around (bare_stmt s)) next) (line w (core_stmt around s) next')

  record StmtsAlike (ss : tree.Stmts) : Type 0 where
    pub list : (around b : Bool) (v : Value) → SameAll w env (acts w b (core_stmts around (bare_stmts ss)) v) (acts w b (core_stmts around ss) v)

  -- ---- expressions

  side_alike : (e : tree.Expr) → (around : Bool) → Same w env (act w (core_expr around (bare_expr e))) (act w (core_expr around e)) → Same w env (act w (core_expr around (side e))) (act w (core_expr around e))
  side_alike e around h = side_by around (has_role e) (bare_expr e) e h

  -- what has no role: its value is enough
  plain_alike : (e : tree.Expr) → has_role e ≡ false → ((around : Bool) → Same w env (act w (core_expr around (bare_expr e))) (act w (core_expr around e))) → ExprAlike e
  plain_alike e h value =
      let new = subst (λ b. Plain (as_side b (bare_expr e))) (sym h) (plain_side (bare_expr e)) in
      let old = plain e h in record {
        value = value;
        member = λ around. step_path w env (new.part around ∙ sym (old.part around));
        rest = λ around dot k j. steps_trans w env (steps_path w env (new.steps around dot (bare_flags dot k e) _)) (steps_trans w env (last_alike w env k.negated j) (steps_path w env (sym (old.steps around dot k _))));
        left = λ around op v. same_path (ap (λ g. assign w op g v) (new.target around ∙ sym (old.target around)));
      }

  variable_alike : (m : List Text) (x : Text) → ExprAlike (tree.Variable m x)
  variable_alike m x = record { value = λ around. same_refl; member = λ around. step_refl w env IllStep; rest = λ around dot k j. last_alike w env k.negated j; left = λ around op v. same_refl }

  this_alike : ExprAlike tree.ThisPtr
  this_alike = record { value = λ around. same_refl; member = λ around. step_refl w env IllStep; rest = λ around dot k j. last_alike w env k.negated j; left = λ around op v. same_refl }

  property_alike : (m : tree.PropertyNames) → ExprAlike (tree.Property m)
  property_alike m = record { value = λ around. same_refl; member = λ around. step_refl w env (Property m); rest = λ around dot k j. last_alike w env k.negated j; left = λ around op v. same_refl }

  method_step : (around : Bool) (c : tree.Callee) (es : tree.Exprs) → ExprsAlike es → StepAlike w env (member_of around (tree.MethodCall c (bare_exprs es))) (member_of around (tree.MethodCall c es))
  method_step around c es h = record {
    access = λ f f' j. same_trans (same_path (ap (λ n. access w (cond (is_callable c n) (Method c.name (core_exprs around (bare_exprs es))) IllStep) f) (count_kept es)))
        ((method_alike w env (is_callable c (tree.count_exprs es)) c.name (core_exprs around (bare_exprs es)) (core_exprs around es) (h.args around)).access f f' j);
  }

  method_call_alike : (c : tree.Callee) (es : tree.Exprs) → ExprsAlike es → ExprAlike (tree.MethodCall c es)
  method_call_alike c es h = record { value = λ around. same_refl; member = λ around. method_step around c es h; rest = λ around dot k j. last_alike w env k.negated j; left = λ around op v. same_refl }

  -- the left side of a chain's rest
  step_alike : (around dot : Bool) (l : tree.Expr) → ExprAlike l → StepAlike w env (cond dot (member_of around (side l)) (Index (core_expr around (side l)))) (cond dot (member_of around l) (Index (core_expr around l)))
  step_alike around true l h = h.member around
  step_alike around false l h = index_alike w env _ _ (side_alike l around (h.value around))

  right_index : (around : Bool) (r : tree.Expr) → ExprAlike r → StepAlike w env (Index (core_expr around (side r))) (Index (core_expr around r))
  right_index around r h = index_alike w env _ _ (side_alike r around (h.value around))

  dot_value : (around : Bool) (k : tree.ChainFlags) (l r : tree.Expr) → ExprAlike l → ExprAlike r → Same w env (act w (core_expr around (bare_expr (tree.Dot k l r)))) (act w (core_expr around (tree.Dot k l r)))
  dot_value around k l r h j = chain_alike w env _ _ (rest_kept true k r) (root_kept l) (side_alike l around (h.value around)) (j.rest around true k (j.member around))

  dot_alike : (k : tree.ChainFlags) (l r : tree.Expr) → ExprAlike l → ExprAlike r → ExprAlike (tree.Dot k l r)
  dot_alike k l r h j = record {
    value = λ around. dot_value around k l r h j;
    member = λ around. step_refl w env IllStep;
    rest = λ around dot m i. link_alike w env m.breaks m.negated i (step_alike around dot l h) (j.rest around true k (j.member around));
    left = λ around op v. target_alike w env (rest_kept true k r) (root_kept l) (ends_kept true k r) (j.rest around true k (j.member around)) op v;
  }

  index_value : (around : Bool) (k : tree.ChainFlags) (l r : tree.Expr) → ExprAlike l → ExprAlike r → Same w env (act w (core_expr around (bare_expr (tree.Index k l r)))) (act w (core_expr around (tree.Index k l r)))
  index_value around k l r h j = chain_alike w env _ _ (rest_kept false k r) (root_kept l) (side_alike l around (h.value around)) (j.rest around false k (right_index around r j))

  index_tree_alike : (k : tree.ChainFlags) (l r : tree.Expr) → ExprAlike l → ExprAlike r → ExprAlike (tree.Index k l r)
  index_tree_alike k l r h j = record {
    value = λ around. index_value around k l r h j;
    member = λ around. step_refl w env IllStep;
    rest = λ around dot m i. link_alike w env m.breaks m.negated i (step_alike around dot l h) (j.rest around false k (right_index around r j));
    left = λ around op v. target_alike w env (rest_kept false k r) (root_kept l) (ends_kept false k r) (j.rest around false k (right_index around r j)) op v;
  }

  map_value_alike : (around : Bool) (ps : tree.Pairs) (template : List Text) → PairsAlike ps → Same w env (act w (core_expr around (tree.MapOf (bare_pairs ps) template))) (act w (core_expr around (tree.MapOf ps template)))
  map_value_alike around ps template h =
      same_trans (same_path (ap (λ b. act w (cond b (core.MapOf (core_pairs around (bare_pairs ps))) core.Ill)) (map_kept template ps)))
      (map_by w env (is_map template ps) _ _ (h.pairs around))

  call_value_alike : (around : Bool) (c : tree.Callee) (es : tree.Exprs) → ExprsAlike es → Same w env (act w (core_expr around (tree.FnCall c (bare_exprs es)))) (act w (core_expr around (tree.FnCall c es)))
  call_value_alike around c es h =
      same_trans (same_path (ap (λ n. act w (cond (is_callable c n) (core.FnCall (callee_by c c.token) (core_exprs around (bare_exprs es))) core.Ill)) (count_kept es)))
      (call_by w env (is_callable c (tree.count_exprs es)) (callee_by c c.token) _ _ (λ f. h.args around f f (λ vs. same_refl)))

  more_alike_exprs : (e : tree.Expr) (es : tree.Exprs) → ExprAlike e → ExprsAlike es → ExprsAlike (tree.expr e es)
  more_alike_exprs e es h j = record {
    args = λ around f f' k. same_bind (h.value around) (λ v. j.args around _ _ (λ vs. k (v ∷ vs)));
    both = λ around. same_bind (h.value around) (λ v. c_if (Same w env) Any (congruent w env) v _ _ _ _ (j.both around) same_refl);
    either = λ around. same_bind (h.value around) (λ v. c_if (Same w env) Any (congruent w env) v _ _ _ _ same_refl (j.either around));
    some = λ around. same_bind (h.value around) (λ v. c_choose (Same w env) Any (congruent w env) (is_unit v) _ _ _ _ (j.some around) same_refl);
  }

  arm_or : (around : Bool) (c a : tree.Expr) (as' : tree.Arms) (i : ℕ) → Same w env (act w (core_expr around (bare_expr c))) (act w (core_expr around c)) → Same w env (act w (core_expr around (bare_expr a))) (act w (core_expr around a)) → ((j : ℕ) → MaybeAlike (Same w env) Any (congruent w env) (slice_get (arm_acts w (core_arms around (bare_arms as'))) j) (slice_get (arm_acts w (core_arms around as')) j)) → MaybeAlike (Same w env) Any (congruent w env) (slice_get (arm_acts w (core_arms around (bare_arms (tree.arm c a as')))) i) (slice_get (arm_acts w (core_arms around (tree.arm c a as'))) i)
  arm_or around c a as' zero h j k = arm_alike (record { guard = h; answer = j })
  arm_or around c a as' (suc i) h j k = k i

  -- ---- statements

  -- the default's condition may be put in braces
  default_arm : (around had : Bool) (as' : tree.Arms) (d i : ℕ) → MaybeAlike (Same w env) Any (congruent w env) (slice_get (arm_acts w (core_arms around (with_condition_at had as' d))) i) (slice_get (arm_acts w (core_arms around as')) i)
  default_arm around had tree.no_arms d i = no_arm_alike
  default_arm around had (tree.arm c a as') zero zero = arm_alike (record { guard = condition_by around had c c same_refl; answer = same_refl })
  default_arm around had (tree.arm c a as') (suc d) zero = arm_alike (record { guard = same_refl; answer = same_refl })
  default_arm around had (tree.arm c a as') zero (suc i) = maybe_refl w env _
  default_arm around had (tree.arm c a as') (suc d) (suc i) = default_arm around had as' d i

  arm_with : (around had : Bool) (as' bs : tree.Arms) (o : Option ℕ) (i : ℕ) → MaybeAlike (Same w env) Any (congruent w env) (slice_get (arm_acts w (core_arms around as')) i) (slice_get (arm_acts w (core_arms around bs)) i) → MaybeAlike (Same w env) Any (congruent w env) (slice_get (arm_acts w (core_arms around (with_default had as' o))) i) (slice_get (arm_acts w (core_arms around bs)) i)
  arm_with around had as' bs None i h = h
  arm_with around had as' bs (Some d) i h = maybe_trans w env (default_arm around had as' d i) h

  switch_deed : (around : Bool) (e : tree.Expr) (as' : tree.Arms) (t : tree.SwitchTable) → ExprAlike e → ArmsTreeAlike as' → Same w env (deed w (cond (is_table (bare_table_arms as' t.default) t) (core.Switch (core_expr around (bare_expr e)) (core_arms around (bare_table_arms as' t.default)) t) core.IllDeed)) (deed w (cond (is_table as' t) (core.Switch (core_expr around e) (core_arms around as') t) core.IllDeed))
  switch_deed around e as' t h j =
      same_trans (same_path (ap (λ b. deed w (cond b (core.Switch (core_expr around (bare_expr e)) (core_arms around (bare_table_arms as' t.default)) t) core.IllDeed)) (table_kept as' t)))
      (switch_by w env (is_table as' t) _ _ _ _ t (h.value around) (λ i. arm_with around (has_true_default as' t.default) (bare_arms as') as' t.default i (j.arm around i)))

  assigned_by : (around b : Bool) (op : Option Operator) (l e : tree.Expr) → ExprAlike l → ExprAlike e → Same w env (deed w (cond b (core.Assignment op (target_of around (side l)) (core_expr around (bare_expr e))) core.IllDeed)) (deed w (cond b (core.Assignment op (target_of around l) (core_expr around e)) core.IllDeed))
  assigned_by around false op l e h j = same_refl
  assigned_by around true op l e h j = same_bind (j.value around) (λ v. h.left around op v)

  assignment_deed : (around : Bool) (op : Option Operator) (l e : tree.Expr) → ExprAlike l → ExprAlike e → Same w env (deed w (cond (is_left_side (side l)) (core.Assignment op (target_of around (side l)) (core_expr around (bare_expr e))) core.IllDeed)) (deed w (cond (is_left_side l) (core.Assignment op (target_of around l) (core_expr around e)) core.IllDeed))
  assignment_deed around op l e h j =
      same_trans (same_path (ap (λ b. deed w (cond b (core.Assignment op (target_of around (side l)) (core_expr around (bare_expr e))) core.IllDeed)) (left_kept l)))
      (assigned_by around (is_left_side l) op l e h j)

  while_deed : (around : Bool) (e : tree.Expr) (p q : Acts) → Same w env (act w (core_expr around (bare_expr e))) (act w (core_expr around e)) → SameAll w env p q → Same w env (loop w (guard_by (as_guard (is_literal_unit e) (bare_expr e)) (core_expr around (as_guard (is_literal_unit e) (bare_expr e)))) p) (loop w (guard_by e (core_expr around e)) q)
  while_deed around tree.UnitConstant p q h j = always_same w env p q j
  while_deed around e p q h j =
      same_trans (same_path (ap (λ g. loop w g p) (guard_kept (bare_expr e) (core_expr around (as_guard false (bare_expr e))))))
      (when_same w env (core_expr around (as_guard false (bare_expr e))) (core_expr around e) p q (same_trans (braced_alike around (is_literal_unit (bare_expr e)) (bare_expr e)) h) j)

  leave_by : (b : Bool) (k : core.ExitKind) (e e' : core.Expr) → Same w env (act w e) (act w e') → Same w env (deed w (cond b (core.Leave k e) core.IllDeed)) (deed w (cond b (core.Leave k e') core.IllDeed))
  leave_by false k e e' h = same_refl
  leave_by true k e e' h = same_bind h (λ v. same_refl)

  -- a list in a block of its own
  closed : (around : Bool) (ss : tree.Stmts) → StmtsAlike ss → (b : Bool) → Same w env (Scoped (acts w b (core_stmts around (bare_stmts ss)) UnitV)) (Scoped (acts w b (core_stmts around ss) UnitV))
  closed around ss h b = same_scoped (h.list around b UnitV)

  in_braces_alike : (around : Bool) (ss : tree.Stmts) → StmtsAlike ss → Same w env (act w (core_expr around (unbraced (settled (bare_stmts ss))))) (Scoped (acts w true (core_stmts around ss) UnitV))
  in_braces_alike around ss h = same_trans (unbraced_alike around (settled (bare_stmts ss))) (same_trans (settled_alike w env around (bare_stmts ss) true UnitV) (closed around ss h true))

  branches : (around : Bool) (a b : tree.Stmts) → StmtsAlike a → StmtsAlike b → (v : Value) → Same w env (if_true v (Scoped (acts w true (core_stmts around (bare_stmts a)) UnitV)) (Scoped (acts w true (core_stmts around (bare_stmts b)) UnitV))) (if_true v (Scoped (acts w true (core_stmts around a) UnitV)) (Scoped (acts w true (core_stmts around b) UnitV)))
  branches around a b h j v = c_if (Same w env) Any (congruent w env) v _ _ _ _ (closed around a h true) (closed around b j true)

  mutual
    expr_alike : (e : tree.Expr) → ExprAlike e
    expr_alike (tree.DynamicConstant v) = plain_alike (tree.DynamicConstant v) refl (λ around. constant_kept w env around v)
    expr_alike (tree.BoolConstant b) = plain_alike (tree.BoolConstant b) refl (λ around. same_refl)
    expr_alike (tree.IntegerConstant n) = plain_alike (tree.IntegerConstant n) refl (λ around. same_refl)
    expr_alike (tree.FloatConstant x) = plain_alike (tree.FloatConstant x) refl (λ around. same_refl)
    expr_alike (tree.CharConstant c) = plain_alike (tree.CharConstant c) refl (λ around. same_refl)
    expr_alike (tree.StringConstant t) = plain_alike (tree.StringConstant t) refl (λ around. same_refl)
    expr_alike tree.UnitConstant = plain_alike tree.UnitConstant refl (λ around. same_refl)
    expr_alike (tree.InterpolatedString es) = plain_alike (tree.InterpolatedString es) refl (λ around. same_trans (ast_alike around (bare_exprs es)) ((exprs_alike es).args around _ _ (λ vs. same_refl)))
    expr_alike (tree.ArrayOf es) = plain_alike (tree.ArrayOf es) refl (λ around. (exprs_alike es).args around _ _ (λ vs. same_refl))
    expr_alike (tree.MapOf ps template) = plain_alike (tree.MapOf ps template) refl (λ around. map_value_alike around ps template (pairs_alike ps))
    expr_alike (tree.Variable m x) = variable_alike m x
    expr_alike tree.ThisPtr = this_alike
    expr_alike (tree.Property m) = property_alike m
    expr_alike (tree.MethodCall c es) = method_call_alike c es (exprs_alike es)
    expr_alike (tree.BlockExpr ss) = plain_alike (tree.BlockExpr ss) refl (λ around. in_braces_alike around ss (stmts_alike ss))
    expr_alike (tree.FnCall c es) = plain_alike (tree.FnCall c es) refl (λ around. call_value_alike around c es (exprs_alike es))
    expr_alike (tree.Dot k l r) = dot_alike k l r (expr_alike l) (expr_alike r)
    expr_alike (tree.Index k l r) = index_tree_alike k l r (expr_alike l) (expr_alike r)
    expr_alike (tree.And es) = plain_alike (tree.And es) refl (λ around. same_trans (both_other around (bare_exprs es)) ((exprs_alike es).both around))
    expr_alike (tree.Or es) = plain_alike (tree.Or es) refl (λ around. same_trans (either_other around (bare_exprs es)) ((exprs_alike es).either around))
    expr_alike (tree.Coalesce es) = plain_alike (tree.Coalesce es) refl (λ around. same_trans (some_other around (bare_exprs es)) ((exprs_alike es).some around))

    exprs_alike : (es : tree.Exprs) → ExprsAlike es
    exprs_alike tree.no_exprs = record { args = λ around f f' k. k []; both = λ around. same_refl; either = λ around. same_refl; some = λ around. same_refl }
    exprs_alike (tree.expr e es) = more_alike_exprs e es (expr_alike e) (exprs_alike es)

    pairs_alike : (ps : tree.Pairs) → PairsAlike ps
    pairs_alike tree.no_pairs = record { pairs = λ around f. same_refl }
    pairs_alike (tree.pair k e ps) = record { pairs = λ around f. same_bind ((expr_alike e).value around) (λ v. (pairs_alike ps).pairs around (λ vs. f ((k, v) ∷ vs))) }

    maybe_alike : (m : tree.MaybeExpr) → MaybeExprAlike m
    maybe_alike tree.no_expr = record { value = λ around. same_refl }
    maybe_alike (tree.an_expr e) = record { value = (expr_alike e).value }

    arms_tree_alike : (as' : tree.Arms) → ArmsTreeAlike as'
    arms_tree_alike tree.no_arms = record { arm = λ around i. no_arm_alike }
    arms_tree_alike (tree.arm c a as') = record { arm = λ around i. arm_or around c a as' i ((expr_alike c).value around) ((expr_alike a).value around) ((arms_tree_alike as').arm around) }

    stmt_alike : (s : tree.Stmt) → StmtAlike s
    stmt_alike tree.Noop = record { line = λ around next next' h. all_line noop_alike h }
    stmt_alike (tree.If e a b) = record { line = λ around next next' h. all_line (same_bind ((expr_alike e).value around) (branches around a b (stmts_alike a) (stmts_alike b))) h }
    stmt_alike (tree.Switch e as' t) = record { line = λ around next next' h. all_line (same_trans (same_path (listed_deed w around (core_expr around (bare_expr e)) (bare_table_arms as' t.default) t)) (switch_deed around e as' t (expr_alike e) (arms_tree_alike as'))) h }
    stmt_alike (tree.While e body) = record { line = λ around next next' h. all_line (while_deed around e _ _ ((expr_alike e).value around) ((stmts_alike body).list true false UnitV)) h }
    stmt_alike (tree.Do negated exported e body) = record { line = λ around next next' h. all_line (c_do (Same w env) Any (congruent w env) negated _ _ _ _ (closed true body (stmts_alike body) false) ((expr_alike e).value around)) h }
    stmt_alike (tree.For x i e body) = record { line = λ around next next' h. all_line (same_bind ((expr_alike e).value around) (c_for_all (Same w env) Any (congruent w env) x i _ _ (rounds_alike w env x i _ _ ((stmts_alike body).list true false UnitV)))) h }
    stmt_alike (tree.Var constant exported x e) = record { line = λ around next next' h. var_same w env (name_kind constant) exported x _ _ ((expr_alike e).value around) (h UnitV) }
    stmt_alike (tree.Assignment op l e) = record { line = λ around next next' h. all_line (assignment_deed around op l e (expr_alike l) (expr_alike e)) h }
    stmt_alike (tree.FnCallStmt c es) = record { line = λ around next next' h. all_line (call_value_alike around c es (exprs_alike es)) h }
    stmt_alike (tree.Block ss) = record { line = λ around next next' h. all_trans (evaluated_alike around (unbraced (settled (bare_stmts ss))) next) (all_line (in_braces_alike around ss (stmts_alike ss)) h) }
    stmt_alike (tree.TryCatch x a b) = record { line = λ around next next' h. all_line (same_trans (same_path (ap (λ o. deed w (try_by o (core_stmts around (bare_stmts a)) (core_stmts around (bare_stmts b)))) (catch_kept x))) (try_alike w env (catch_name x) _ _ _ _ (λ c. (stmts_alike a).list around c UnitV) (λ c. (stmts_alike b).list around c UnitV))) h }
    stmt_alike (tree.ExprStmt e) = record { line = λ around next next' h. all_trans (evaluated_alike around (bare_expr e) next) (all_line ((expr_alike e).value around) h) }
    stmt_alike (tree.BreakLoop is_break exported m) = record { line = λ around next next' h. all_line (leave_by around (break_kind is_break) _ _ ((maybe_alike m).value around)) h }
    stmt_alike (tree.Return is_throw exported m) = record { line = λ around next next' h. all_line (same_bind ((maybe_alike m).value around) (λ v. same_refl)) h }
    stmt_alike (tree.Import e x) = record { line = λ around next next' h. alias_same w env x _ _ next next' ((expr_alike e).value around) h }
    stmt_alike (tree.Export x y) = record { line = λ around next next' h. var_same w env IsExport false (or_own y x) _ _ same_refl (h UnitV) }
    stmt_alike (tree.Share xs) = record { line = λ around next next' h. all_line same_refl h }

    stmts_alike : (ss : tree.Stmts) → StmtsAlike ss
    stmts_alike tree.no_stmts = record { list = λ around b v. all_refl }
    stmts_alike (tree.stmt s ss) = record { list = λ around b v. all_trans (grouped_alike w env around b (bare_stmt s) (bare_stmts ss) v) ((stmt_alike s).line around _ _ (λ u. (stmts_alike ss).list around b u)) }

  pub list_alike : (around b : Bool) (ss : tree.Stmts) (v : Value) → SameAll w env (acts w b (core_stmts around (bare_stmts ss)) v) (acts w b (core_stmts around ss) v)
  list_alike around b ss v = (stmts_alike ss).list around b v
