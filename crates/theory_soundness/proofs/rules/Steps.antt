-- The steps of chains over constants and literals: a lemma each, of the rule's name.
use Rattle.std.proofs.Common.{◌≡◌, ℕ, Bool, true, false, cond, List, [], Some, None, refl, sym, subst}
use Rattle.std.specs.Prelude.{ℤ, codes, ◌&&◌}
use Rattle.rhai_base.specs.Value.{Text, Value, Fields, UnitV, BoolV, IntV, TextV, ArrayV, MapV, values}
use Rattle.theory_meaning.specs.Act.{Act, WrongKind}
use Rattle.theory_meaning.specs.ActForms.{give, choose, ◌>>=◌}
use Rattle.theory_meaning.specs.Chains.{OfIndex, OfMethod, applied, unless_unit}
use Rattle.theory_meaning.specs.Constants.{constant_value}
use Rattle.theory_meaning.specs.Core as core
use Rattle.theory_meaning.specs.Desugar.{core_expr, member_of}
use Rattle.theory_meaning.specs.Elements.{index_in, entry}
use Rattle.theory_meaning.specs.Engine.{mapped_type_name}
use Rattle.theory_meaning.specs.Meaning.{act, access}
use Rattle.theory_meaning.specs.Places.{without_place, Current, refreshed}
use Rattle.theory_meaning.specs.Queries.{are_pure_exprs, are_pure_pairs}
use Rattle.theory_meaning.specs.Shape.{is_unit, is_callable}
use Rattle.theory_meaning.specs.Tree.{ChainFlags, PropertyNames, Expr, BoolConstant, StringConstant, ArrayOf, MapOf, Property, MethodCall, Index, Exprs, no_exprs, count_exprs, Pairs}
use Rattle.theory_rewriting.specs.Context.{Context}
use Rattle.theory_rewriting.specs.Indexing.{indexed, expr_at, pair_for, or_unit}
use Rattle.theory_rewriting.specs.Parts.{constant_of, named}
use Rattle.theory_rewriting.specs.Rules as rule
use Rattle.theory_rewriting.specs.Rules.{StepRule}
use Rattle.theory_soundness.proofs.simulation.Laws.{simulates_stuck}
use Rattle.theory_soundness.proofs.simulation.Setting.{Setting, world}
use Rattle.theory_soundness.proofs.simulation.Simulation.{Simulates, simulates_trans, simulates_refl, simulates_equal}
use Rattle.theory_soundness.proofs.rules.Given.{constant_then, constant_of_means}
use Rattle.theory_rewriting.proofs.rules.Entries.{index_known}
use Rattle.theory_soundness.proofs.rules.Literals.{element_picked, entry_picked}

-- ---- steps as core

-- the argument of a node, and the steps of its right side
abbrev pub argument : (loop dot : Bool) → Expr → core.Step
argument loop dot x = cond dot (member_of loop x) (core.Index (core_expr loop x))

module _ {k : Context} (c : Setting k) where
  -- a step at a value, with what comes after its answer
  abbrev pub step_at : Bool → core.Step → Value → (Current → Act) → Act
  step_at o p v next = unless_unit o (without_place v) (access (world c) p (λ q. refreshed (without_place v) (λ d. applied (world c) q d next)))

  -- as the constant that is left
  pub to_constant : (a : Act) (v : Value) → Simulates c a (give v) → Simulates c a (act (world c) (core_expr c.in_loop (constant_of v)))
  to_constant a v h = subst (λ x. Simulates c a (act (world c) x)) (sym (constant_of_means c.in_loop v)) h

  pub not_unit : (b : Bool) (x y a : Act) → b ≡ false → Simulates c y a → Simulates c (choose b x y) a
  not_unit true x y a h j = absurd (let z : true ≡ false = h in cc)
  not_unit false x y a h j = j

  pub no_unit : (o b : Bool) → b ≡ false → (o && b) ≡ false
  no_unit true b h = h
  no_unit false b h = refl

  indexed_is : (v j u : Value) → indexed v j ≡ Some u → is_unit v ≡ false
  indexed_is UnitV j u h = absurd (let z : None ≡ Some u = h in cc)
  indexed_is _ j u h = refl

  property_next : (o : Bool) (p : PropertyNames) (fs : Fields) (next : Current → Act) → Simulates c (step_at o (core.Property p) (MapV fs) next) (next (without_place (entry fs p.name)))
  property_next o p fs next = not_unit (o && is_unit (MapV fs)) _ _ _ (no_unit o false refl) simulates_refl

  index_next : (o : Bool) (i : Expr) (v j u : Value) → constant_value i ≡ Some j → indexed v j ≡ Some u → (next : Current → Act) → Simulates c (step_at o (core.Index (core_expr c.in_loop i)) v next) (next (without_place u))
  index_next o i v j u h q next =
      not_unit (o && is_unit v) _ _ _ (no_unit o (is_unit v) (indexed_is v j u q))
      (simulates_trans (constant_then c i j (λ z. applied (world c) (OfIndex z) (without_place v) next) h)
      (subst (λ a. Simulates c a (next (without_place u))) (sym (index_known v j u q next)) simulates_refl))

  method_next : (b o : Bool) (m : Text) (v u : Value) → (o && is_unit v) ≡ false → ((next : Current → Act) → Simulates c (applied (world c) (OfMethod m []) (without_place v) next) (next (without_place u))) → (next : Current → Act) → Simulates c (step_at o (cond b (core.Method m core.no_exprs) core.IllStep) v next) (next (without_place u))
  method_next true o m v u n j next = not_unit (o && is_unit v) _ _ _ n (j next)
  method_next false o m v u n j next = not_unit (o && is_unit v) _ _ _ n (simulates_stuck WrongKind _)

  -- over a constant, whatever comes next
  constant_answers : (o : Bool) (p : core.Step) (e : Expr) (v u : Value) → constant_value e ≡ Some v → ((next : Current → Act) → Simulates c (step_at o p v next) (next (without_place u))) → (next : Current → Act) → Simulates c (act (world c) (core_expr c.in_loop e) >>= λ w. step_at o p w next) (act (world c) (core_expr c.in_loop (constant_of u)) >>= λ w. next (without_place w))
  constant_answers o p e v u h j next =
      subst (λ z. Simulates c (act (world c) (core_expr c.in_loop e) >>= λ w. step_at o p w next) (act (world c) z >>= λ w. next (without_place w))) (sym (constant_of_means c.in_loop u))
      (simulates_trans (constant_then c e v (λ w. step_at o p w next) h) (simulates_trans (j next) (simulates_equal (λ i. refl))))

-- ---- what a step owes

-- What it answers does what the step does, whatever comes next.
pub record StepSound (k : Context) (dot : Bool) (f : ChainFlags) (e a e' : Expr) : Type 1 where
  pub sound : (c : Setting k) (next : Current → Act) → Simulates c (act (world c) (core_expr c.in_loop e) >>= λ v. step_at c f.negated (argument c.in_loop dot a) v next) (act (world c) (core_expr c.in_loop e') >>= λ v. next (without_place v))

-- a step at a constant, that answers a value
constant_step : {k : Context} {dot : Bool} {f : ChainFlags} {e a : Expr} (v u : Value) → constant_value e ≡ Some v → ((c : Setting k) (next : Current → Act) → Simulates c (step_at c f.negated (argument c.in_loop dot a) v next) (next (without_place u))) → StepSound k dot f e a (constant_of u)
constant_step {dot = dot} {f = f} {e = e} {a = a} v u h j = record {
  sound = λ c. constant_answers c f.negated (argument c.in_loop dot a) e v u h (j c);
}

-- ---- the rules

pub property_of_constant : {k : Context} {f : ChainFlags} {e : Expr} {p : PropertyNames} (fs : Fields) → constant_value e ≡ Some (MapV fs) → StepSound k true f e (Property p) (constant_of (entry fs p.name))
property_of_constant {f = f} {p = p} fs h = constant_step (MapV fs) (entry fs p.name) h (λ c. property_next c f.negated p fs)

pub index_of_constant : {k : Context} {f : ChainFlags} {e i : Expr} (v j u : Value) → constant_value e ≡ Some v → constant_value i ≡ Some j → indexed v j ≡ Some u → StepSound k false f e i (constant_of u)
index_of_constant {f = f} {i = i} v j u h q r = constant_step v u h (λ c. index_next c f.negated i v j u q r)

-- over a literal: its parts are pure, so the one that is left is no place

pub element_of_array : {k : Context} {f : ChainFlags} {es : Exprs} {i e : Expr} (n : ℤ) (j : ℕ) → are_pure_exprs es ≡ true → constant_value i ≡ Some (IntV n) → index_in (count_exprs es) n ≡ Some j → expr_at es j ≡ Some e → StepSound k false f (ArrayOf es) i e
element_of_array {f = f} {es = es} {i = i} {e = e} n j h q r x = record {
  sound = λ c next. element_picked c es n j e _ (λ v. next (without_place v)) h r x (λ vs u p. index_next c f.negated i (ArrayV (values vs)) (IntV n) u q p next);
}

pub property_of_map : {k : Context} {f : ChainFlags} {ps : Pairs} {template : List Text} {p : PropertyNames} → are_pure_pairs ps ≡ true → StepSound k true f (MapOf ps template) (Property p) (or_unit (pair_for ps p.name))
property_of_map {f = f} {ps = ps} {template = template} {p = p} h = record {
  sound = λ c next. entry_picked c ps template p.name _ (λ v. next (without_place v)) h (λ fs. property_next c f.negated p fs next);
}

pub entry_of_map : {k : Context} {f : ChainFlags} {ps : Pairs} {template : List Text} {i : Expr} (x : Text) → are_pure_pairs ps ≡ true → constant_value i ≡ Some (TextV x) → StepSound k false f (MapOf ps template) i (or_unit (pair_for ps x))
entry_of_map {f = f} {ps = ps} {template = template} {i = i} x h q = record {
  sound = λ c next. entry_picked c ps template x _ (λ v. next (without_place v)) h (λ fs. index_next c f.negated i (MapV fs) (TextV x) (entry fs x) q refl next);
}

-- a method of a constant

pub type_of_method : {k : Context} {f : ChainFlags} {e : Expr} (v : Value) → constant_value e ≡ Some v → (f.negated && is_unit v) ≡ false → StepSound k true f e (MethodCall (named (codes "type_of") false) no_exprs) (StringConstant (mapped_type_name k.engine v))
type_of_method {k = k} {f = f} v h n = constant_step v (TextV (mapped_type_name k.engine v)) h (λ c. method_next c (is_callable (named (codes "type_of") false) 0) f.negated (codes "type_of") v (TextV (mapped_type_name k.engine v)) n (λ next. simulates_refl))

pub is_shared_method : {k : Context} {f : ChainFlags} {e : Expr} (v : Value) → constant_value e ≡ Some v → (f.negated && is_unit v) ≡ false → StepSound k true f e (MethodCall (named (codes "is_shared") false) no_exprs) (BoolConstant false)
is_shared_method {f = f} v h n = constant_step v (BoolV false) h (λ c. method_next c (is_callable (named (codes "is_shared") false) 0) f.negated (codes "is_shared") v (BoolV false) n (λ next. simulates_refl))

pub step_rule : {k : Context} {dot : Bool} {f : ChainFlags} {e a e' : Expr} → StepRule k dot f e a e' → StepSound k dot f e a e'
step_rule (rule.property_of_constant fs h) = property_of_constant fs h
step_rule (rule.index_of_constant v j u h q r) = index_of_constant v j u h q r
step_rule (rule.element_of_array n j h q r x) = element_of_array n j h q r x
step_rule (rule.property_of_map h) = property_of_map h
step_rule (rule.entry_of_map x h q) = entry_of_map x h q
step_rule (rule.type_of_method v h n) = type_of_method v h n
step_rule (rule.is_shared_method v h n) = is_shared_method v h n
