-- The steps of chains over constants and literals: a lemma each, of the rule's name.
use Rattle.std.proofs.Common.{◌<◌, ◌≡◌, ℕ, Bool, true, false, List, Some, None, refl, arith, ◌+◌}
use Rattle.std.specs.Prelude.{ℤ, codes, ◌&&◌}
use Rattle.rhai_base.specs.Value.{Text, Value, Fields, UnitV, BoolV, IntV, TextV, MapV}
use Rattle.theory_meaning.specs.Constants.{constant_value}
use Rattle.theory_meaning.specs.Core as core
use Rattle.theory_meaning.specs.Desugar.{root_of, steps_of}
use Rattle.theory_meaning.specs.Elements.{index_in, entry}
use Rattle.theory_meaning.specs.Engine.{mapped_type_name}
use Rattle.theory_meaning.specs.Queries.{are_pure_exprs, are_pure_pairs}
use Rattle.theory_meaning.specs.Shape.{is_unit}
use Rattle.theory_meaning.specs.Tree.{ChainFlags, PropertyNames, Expr, BoolConstant, StringConstant, ArrayOf, MapOf, Variable, ThisPtr, Property, MethodCall, Dot, Index, Exprs, no_exprs, count_exprs, Pairs}
use Rattle.theory_rewriting.specs.Context.{Context}
use Rattle.theory_rewriting.specs.Indexing.{indexed, expr_at, pair_for, or_unit}
use Rattle.theory_rewriting.specs.Parts.{constant_of, named}
use Rattle.theory_rewriting.specs.Rules as rule
use Rattle.theory_rewriting.specs.Rules.{StepRule}
use Rattle.theory_rewriting.proofs.rules.Given.{constant_of_light, constant_of_keeps}
use Rattle.theory_rewriting.proofs.rules.Literals.{element_light, entry_light, element_keeps, entry_keeps, element_root, entry_root}
use Rattle.theory_meaning.specs.Walk.{Node, Around, whole, throughout, over_expr}
use Rattle.theory_meaning.specs.Weight.{expr_weight}
use Rattle.theory_rewriting.proofs.rules.Lasting.{Lasting}

-- a constant is no place
pub constant_root : (e : Expr) (v : Value) → constant_value e ≡ Some v → root_of e ≡ None
constant_root (Variable ns x) v h = absurd (let z : None ≡ Some v = h in cc)
constant_root ThisPtr v h = absurd (let z : None ≡ Some v = h in cc)
constant_root _ v h = refl

constant_no_root : (u : Value) → root_of (constant_of u) ≡ None
constant_no_root UnitV = refl
constant_no_root _ = refl

-- the right side of an index that is constant is the last
pub index_last : (loop : Bool) (f : ChainFlags) (p : core.Step) (i : Expr) (v : Value) → constant_value i ≡ Some v → steps_of loop false f p i ≡ core.last f.negated p
index_last loop f p (Dot m a b) v h = absurd (let z : None ≡ Some v = h in cc)
index_last loop f p (Index m a b) v h = absurd (let z : None ≡ Some v = h in cc)
index_last loop f p _ v h = refl

-- ---- what a step owes

-- What it answers is lighter than the chain, has at its nodes what stands at the base's. Neither
-- the base nor the answer is a place, and the argument is no chain.
pub record StepObligation (k : Context) (dot : Bool) (f : ChainFlags) (e a e' : Expr) : Type 1 where
  pub lighter : expr_weight e' < 4 + (expr_weight e + expr_weight a)
  pub keeps : (P : Around → Node → Type 0) (l : Bool) → Lasting P l → over_expr (throughout P) e (whole l) → over_expr (throughout P) e' (whole l)
  pub base : root_of e ≡ None
  pub answer : root_of e' ≡ None
  pub alone : (loop : Bool) (p : core.Step) → steps_of loop dot f p a ≡ core.last f.negated p

-- a step at a constant, that answers a value
constant_step : {k : Context} {dot : Bool} {f : ChainFlags} {e a : Expr} (v u : Value) → constant_value e ≡ Some v → ((loop : Bool) (p : core.Step) → steps_of loop dot f p a ≡ core.last f.negated p) → StepObligation k dot f e a (constant_of u)
constant_step {dot = dot} {f = f} {e = e} {a = a} v u h n = record {
  lighter = omega (arith, constant_of_light u);
  keeps = λ P l lasts i. constant_of_keeps P l lasts u;
  base = constant_root e v h;
  answer = constant_no_root u;
  alone = n;
}

-- ---- the rules

pub property_of_constant : {k : Context} {f : ChainFlags} {e : Expr} {p : PropertyNames} (fs : Fields) → constant_value e ≡ Some (MapV fs) → StepObligation k true f e (Property p) (constant_of (entry fs p.name))
property_of_constant {f = f} {p = p} fs h = constant_step (MapV fs) (entry fs p.name) h (λ l s. refl)

pub index_of_constant : {k : Context} {f : ChainFlags} {e i : Expr} (v j u : Value) → constant_value e ≡ Some v → constant_value i ≡ Some j → indexed v j ≡ Some u → StepObligation k false f e i (constant_of u)
index_of_constant {f = f} {i = i} v j u h q r = constant_step v u h (λ l s. index_last l f s i j q)

-- over a literal: its parts are pure, so the one that is left is no place

pub element_of_array : {k : Context} {f : ChainFlags} {es : Exprs} {i e : Expr} (n : ℤ) (j : ℕ) → are_pure_exprs es ≡ true → constant_value i ≡ Some (IntV n) → index_in (count_exprs es) n ≡ Some j → expr_at es j ≡ Some e → StepObligation k false f (ArrayOf es) i e
element_of_array {f = f} {es = es} {i = i} {e = e} n j h q r x = record {
  lighter = omega (arith, element_light es j e x);
  keeps = λ P l lasts y. element_keeps P l lasts es j e x y.1;
  base = refl;
  answer = element_root es j e h x;
  alone = λ l s. index_last l f s i (IntV n) q;
}

pub property_of_map : {k : Context} {f : ChainFlags} {ps : Pairs} {template : List Text} {p : PropertyNames} → are_pure_pairs ps ≡ true → StepObligation k true f (MapOf ps template) (Property p) (or_unit (pair_for ps p.name))
property_of_map {f = f} {ps = ps} {template = template} {p = p} h = record {
  lighter = omega (arith, entry_light ps p.name);
  keeps = λ P l lasts y. entry_keeps P l lasts ps p.name y.1;
  base = refl;
  answer = entry_root ps p.name h;
  alone = λ l s. refl;
}

pub entry_of_map : {k : Context} {f : ChainFlags} {ps : Pairs} {template : List Text} {i : Expr} (x : Text) → are_pure_pairs ps ≡ true → constant_value i ≡ Some (TextV x) → StepObligation k false f (MapOf ps template) i (or_unit (pair_for ps x))
entry_of_map {f = f} {ps = ps} {template = template} {i = i} x h q = record {
  lighter = omega (arith, entry_light ps x);
  keeps = λ P l lasts y. entry_keeps P l lasts ps x y.1;
  base = refl;
  answer = entry_root ps x h;
  alone = λ l s. index_last l f s i (TextV x) q;
}

-- a method of a constant

pub type_of_method : {k : Context} {f : ChainFlags} {e : Expr} (v : Value) → constant_value e ≡ Some v → (f.negated && is_unit v) ≡ false → StepObligation k true f e (MethodCall (named (codes "type_of") false) no_exprs) (StringConstant (mapped_type_name k.engine v))
type_of_method {k = k} {f = f} v h n = constant_step v (TextV (mapped_type_name k.engine v)) h (λ l s. refl)

pub is_shared_method : {k : Context} {f : ChainFlags} {e : Expr} (v : Value) → constant_value e ≡ Some v → (f.negated && is_unit v) ≡ false → StepObligation k true f e (MethodCall (named (codes "is_shared") false) no_exprs) (BoolConstant false)
is_shared_method {f = f} v h n = constant_step v (BoolV false) h (λ l s. refl)

pub step_rule : {k : Context} {dot : Bool} {f : ChainFlags} {e a e' : Expr} → StepRule k dot f e a e' → StepObligation k dot f e a e'
step_rule (rule.property_of_constant fs h) = property_of_constant fs h
step_rule (rule.index_of_constant v j u h q r) = index_of_constant v j u h q r
step_rule (rule.element_of_array n j h q r x) = element_of_array n j h q r x
step_rule (rule.property_of_map h) = property_of_map h
step_rule (rule.entry_of_map x h q) = entry_of_map x h q
step_rule (rule.type_of_method v h n) = type_of_method v h n
step_rule (rule.is_shared_method v h n) = is_shared_method v h n
