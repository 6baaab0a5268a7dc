-- Simulations go through every construct of the language, and through chains and loops whose parts simulate.
use Rattle.std.proofs.Common.{ℕ, Bool, true, false, cond, List, [], ◌∷◌, Option, Some, None}
use Rattle.std.specs.Prelude.{slice_get, pos, ◌^◌, nat_lt}
use Rattle.rhai_base.specs.Value.{Text, Value, UnitV, IntV}
use Rattle.rhai_base.specs.Operators.{Operator}
use Rattle.theory_meaning.specs.Act.{IsVariable, Root, Act, Fail, Scoped, Acts, Named, Only, CounterTooLarge}
use Rattle.theory_meaning.specs.Chains.{Access}
use Rattle.theory_meaning.specs.Control.{ArmActs, switch_on, default_of, chosen}
use Rattle.theory_meaning.specs.Core as core
use Rattle.theory_meaning.specs.Core.{Step, IllStep, Property, Index, Method, Steps, last, more}
use Rattle.theory_meaning.specs.Desugar.{based, part_target, try_by, core_stmts}
use Rattle.theory_meaning.specs.Meaning.{act, with_args, at_base, access, steps, assign_steps, assign, deed, acts}
use Rattle.theory_meaning.specs.Places.{Current, at_root, without_place}
use Rattle.theory_meaning.specs.Tree.{SwitchTable, Stmts}
use Rattle.theory_rewriting.specs.Context.{Context, Inside, naming, naming_some, naming_catch}
use Rattle.theory_meaning.proofs.Congruent.{Congruent, c_bind, c_unless, c_refreshed, c_applied, c_first, c_answer, c_try, RoundsAlike, MaybeAlike, ArmsAlike, no_arms_alike, arms_alike}
use Rattle.theory_soundness.proofs.simulation.Lists.{SimulatesList, list_named}
use Rattle.theory_soundness.proofs.simulation.Setting.{Setting, beneath, world}
use Rattle.theory_soundness.proofs.simulation.Simulation.{Simulates, simulates_trans, simulates_refl, simulates_then, simulates_turn, simulates_resolve, simulates_ask, simulates_invoke, simulates_loop}

abbrev pub Any : Bool → Type 0
Any b = Unit {0}

pub congruent : {k : Context} (c : Setting k) → Congruent (λ a b. Simulates c a b) Any
congruent c = record {
  stop = λ e. simulates_refl;
  fail = λ f. simulates_refl;
  and_then = λ a b next next' h j. simulates_then h j;
  turn = λ a b h. simulates_turn h;
  read = λ r. simulates_refl;
  write = λ must r v. simulates_refl;
  resolve = λ a next next' h. simulates_resolve a h;
  ask = λ call next next' h. simulates_ask call h;
  invoke = λ a next next' ok h. simulates_invoke a h;
  loop = λ a b h. simulates_loop h;
  plain = tt;
}

module _ {k : Context} (c : Setting k) where
  abbrev P : Act → Act → Type 0
  P a b = Simulates c a b

  -- ---- arguments, before what simulates

  pub args_before : (es : core.Exprs) (f f' : List Value → Act) → ((vs : List Value) → P (f vs) (f' vs)) → P (with_args (world c) es f) (with_args (world c) es f')
  args_before core.no_exprs f f' h = h []
  args_before (core.expr e es) f f' h = c_bind P Any (congruent c) _ _ _ _ simulates_refl (λ v. args_before es _ _ (λ vs. h (v ∷ vs)))

  -- ---- steps

  pub record StepAlike (p p' : Step) : Type 0 where
    pub access : (f f' : Access → Act) → ((r : Access) → P (f r) (f' r)) → P (access (world c) p f) (access (world c) p' f')

  pub step_refl : (p : Step) → StepAlike p p
  step_refl IllStep = record { access = λ f f' h. simulates_refl }
  step_refl (Property p) = record { access = λ f f' h. h _ }
  step_refl (Index e) = record { access = λ f f' h. c_bind P Any (congruent c) _ _ _ _ simulates_refl (λ v. h _) }
  step_refl (Method m es) = record { access = λ f f' h. args_before es _ _ (λ vs. h _) }

  pub index_alike : (e e' : core.Expr) → P (act (world c) e) (act (world c) e') → StepAlike (Index e) (Index e')
  index_alike e e' i = record { access = λ f f' h. c_bind P Any (congruent c) _ _ _ _ i (λ v. h _) }

  pub method_alike : (b : Bool) (m : Text) (es es' : core.Exprs) → ((next : List Value → Act) → P (with_args (world c) es next) (with_args (world c) es' next)) → StepAlike (cond b (Method m es) IllStep) (cond b (Method m es') IllStep)
  method_alike false m es es' h = step_refl IllStep
  method_alike true m es es' h = record { access = λ f f' j. simulates_trans (h _) (args_before es' _ _ (λ vs. j _)) }

  -- as an expression, and as what is written to
  pub record StepsAlike (sts sts' : Steps) : Type 0 where
    pub reads : (x : Current) → P (steps (world c) sts x) (steps (world c) sts' x)
    pub writes : (op : Option Operator) (v : Value) (x : Current) → P (assign_steps (world c) op v sts x) (assign_steps (world c) op v sts' x)

  pub steps_refl : (sts : Steps) → StepsAlike sts sts
  steps_refl sts = record { reads = λ x. simulates_refl; writes = λ op v x. simulates_refl }

  pub last_alike : (o : Bool) {p p' : Step} → StepAlike p p' → StepsAlike (last o p) (last o p')
  last_alike o h = record {
    reads = λ x. c_unless P Any (congruent c) o x _ _ (h.access _ _ (λ r. simulates_refl));
    writes = λ op v x. c_unless P Any (congruent c) o x _ _ (h.access _ _ (λ r. simulates_refl));
  }

  pub more_alike : (o : Bool) {p p' : Step} {sts sts' : Steps} → StepAlike p p' → StepsAlike sts sts' → StepsAlike (more o p sts) (more o p' sts')
  more_alike o h j = record {
    reads = λ x. c_unless P Any (congruent c) o x _ _ (h.access _ _ (λ r. c_refreshed P Any (congruent c) x _ _ (λ d. c_applied P Any (congruent c) (world c) r d _ _ (λ y. j.reads y))));
    writes = λ op v x. c_unless P Any (congruent c) o x _ _ (h.access _ _ (λ r. c_refreshed P Any (congruent c) x _ _ (λ d. c_applied P Any (congruent c) (world c) r d _ _ (λ y. j.writes op v y))));
  }

  -- ---- chains, and left sides

  base_alike : (o : Option Root) (e e' : core.Expr) → P (act (world c) e) (act (world c) e') → (f f' : Current → Act) → ((x : Current) → P (f x) (f' x)) → P (at_base (world c) (based o e) f) (at_base (world c) (based o e') f')
  base_alike (Some r) e e' i f f' h = c_bind P Any (congruent c) _ _ _ _ simulates_refl (λ v. h (at_root v r))
  base_alike None e e' i f f' h = c_bind P Any (congruent c) _ _ _ _ i (λ v. h (without_place v))

  -- b: whether the chain has a meaning
  pub chain_alike : (b : Bool) (o : Option Root) (e e' : core.Expr) {sts sts' : Steps} → P (act (world c) e) (act (world c) e') → StepsAlike sts sts' → P (act (world c) (cond b (core.Chain (based o e) sts) core.Ill)) (act (world c) (cond b (core.Chain (based o e') sts') core.Ill))
  chain_alike false o e e' i h = simulates_refl
  chain_alike true o e e' i h = base_alike o e e' i _ _ h.reads

  part_alike : (o : Option Root) (call : Bool) {sts sts' : Steps} → StepsAlike sts sts' → (op : Option Operator) (v : Value) → P (assign (world c) op (part_target o call sts) v) (assign (world c) op (part_target o call sts') v)
  part_alike None call h op v = simulates_refl
  part_alike (Some r) true h op v = simulates_refl
  part_alike (Some r) false h op v = c_bind P Any (congruent c) _ _ _ _ simulates_refl (λ u. h.writes op v (at_root u r))

  pub target_alike : (b : Bool) (o : Option Root) (call : Bool) {sts sts' : Steps} → StepsAlike sts sts' → (op : Option Operator) (v : Value) → P (assign (world c) op (cond b (part_target o call sts) core.IllTarget) v) (assign (world c) op (cond b (part_target o call sts') core.IllTarget) v)
  target_alike false o call h op v = simulates_refl
  target_alike true o call h op v = part_alike o call h op v

  -- ---- `switch`

  alike_at : {as' bs : List ArmActs} → ((i : ℕ) → MaybeAlike P Any (congruent c) (slice_get as' i) (slice_get bs i)) → (is : List ℕ) → ArmsAlike P Any (congruent c) as' bs is
  alike_at h [] = no_arms_alike
  alike_at h (i ∷ is) = arms_alike (h i) (alike_at h is)

  default_alike : (as' bs : List ArmActs) → ((i : ℕ) → MaybeAlike P Any (congruent c) (slice_get as' i) (slice_get bs i)) → (o : Option ℕ) → P (default_of as' o) (default_of bs o)
  default_alike as' bs h None = simulates_refl
  default_alike as' bs h (Some i) = c_answer P Any (congruent c) (h i)

  pub switch_alike : (as' bs : List ArmActs) → ((i : ℕ) → MaybeAlike P Any (congruent c) (slice_get as' i) (slice_get bs i)) → (t : SwitchTable) (v : Value) → P (switch_on as' t v) (switch_on bs t v)
  switch_alike as' bs h t v = c_first P Any (congruent c) (chosen t v) (alike_at h (chosen t v)) _ _ (default_alike as' bs h t.default)

-- ---- lists in a loop's body and under the names of a loop or a catch

-- in the body of a loop
pub in_body : {k : Context} → Setting k → Setting k
in_body c = record { host = c.host; functions = c.functions; environments = c.environments; in_loop = true }

-- where a tree stands makes no difference to acts
left_body : {k : Context} {c : Setting k} {a b : Act} → Simulates (in_body c) a b → Simulates c a b
unfolding in_body
left_body h = record { at = λ d. record { matches = (h.at d).matches } }

-- a list inside that is rewritten so, wherever it stands
abbrev pub InsideAlike : Context → (ss ss' : Stmts) → Type 0
InsideAlike k ss ss' = (c : Setting k) → SimulatesList c (Inside false) (acts (world c) false (core_stmts c.in_loop ss) UnitV) (acts (world c) false (core_stmts c.in_loop ss') UnitV)

module _ {k : Context} (c : Setting k) where
  pub body_alike : (ss ss' : Stmts) → InsideAlike k ss ss' → Simulates c (Scoped (acts (world c) false (core_stmts true ss) UnitV)) (Scoped (acts (world c) false (core_stmts true ss') UnitV))
  unfolding in_body
  body_alike ss ss' h = left_body (h (in_body c)).closed

  counter_alike : (b : Bool) (i : Text) (n : Value) (p q : Acts) → SimulatesList (beneath i c) (Inside false) p q → Simulates c (Scoped (cond b (Named i IsVariable n p) (Only (Fail CounterTooLarge)))) (Scoped (cond b (Named i IsVariable n q) (Only (Fail CounterTooLarge))))
  counter_alike false i n p q h = simulates_refl
  counter_alike true i n p q h = (list_named (Inside false) i IsVariable n h).closed

list_in_body : {k : Context} {c : Setting k} (p q : Acts) → SimulatesList (in_body c) (Inside false) p q → SimulatesList c (Inside false) p q
list_in_body p q h = record { closed = left_body h.closed }

module _ {k : Context} (c : Setting k) where
  abbrev body_of : Stmts → Acts
  body_of ss = acts (world c) false (core_stmts true ss) UnitV

  pub rounds_alike : (x : Text) (i : Option Text) (ss ss' : Stmts) → InsideAlike (naming x (naming_some i k)) ss ss' → RoundsAlike (λ a b. Simulates c a b) Any (congruent c) x i (body_of ss) (body_of ss')
  unfolding in_body
  rounds_alike x None ss ss' h n v = (list_named (Inside false) x IsVariable v (list_in_body _ _ (h (in_body (beneath x c))))).closed
  rounds_alike x (Some i) ss ss' h n v = counter_alike c (nat_lt n (2 ^ 63)) i (IntV (pos n)) _ _ (list_named (Inside false) x IsVariable v (list_in_body _ _ (h (in_body (beneath x (beneath i c))))))

  pub try_alike : (o : Option (Option Text)) (a a' b b' : Stmts) → InsideAlike k a a' → InsideAlike (naming_catch o k) b b' → Simulates c (deed (world c) (try_by o (core_stmts c.in_loop a) (core_stmts c.in_loop b))) (deed (world c) (try_by o (core_stmts c.in_loop a') (core_stmts c.in_loop b')))
  try_alike None a a' b b' h j = simulates_refl
  try_alike (Some None) a a' b b' h j = c_try (λ x y. Simulates c x y) Any (congruent c) None _ _ _ _ (h c).closed (λ v. (j c).closed)
  try_alike (Some (Some x)) a a' b b' h j = c_try (λ y z. Simulates c y z) Any (congruent c) (Some x) _ _ _ _ (h c).closed (λ v. (list_named (Inside false) x IsVariable v (j (beneath x c))).closed)
