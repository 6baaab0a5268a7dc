-- Where no step answers and no unit ends the chain, no rule applies at it.
use Rattle.std.proofs.Common.{◌≡◌, Bool, true, false, List, Option, Some, None, refl, sym, ap, ◌∙◌}
use Rattle.std.specs.Prelude.{◌&&◌, not, codes, if◌then◌else◌}
use Rattle.rhai_base.specs.Value.{Text, Value, UnitV, BoolV, TextV, MapV, ArrayV, values, is_unit}
use Rattle.theory_meaning.specs.Constants.{constant_value, constant_values, constant_entries, array_value, map_value}
use Rattle.theory_meaning.specs.Elements.{at_index, entry, fields_of}
use Rattle.theory_meaning.specs.Engine.{Engine, mapped_type_name}
use Rattle.theory_meaning.specs.Queries.{is_pure_expr}
use Rattle.theory_meaning.specs.Queries.{is_unit as is_unit_expr}
use Rattle.theory_meaning.specs.Tree.{ChainFlags, PropertyNames, Callee, Expr, DynamicConstant, UnitConstant, ArrayOf, MapOf, Property, MethodCall, Dot, Index, Exprs, no_exprs, Pairs}
use Rattle.theory_rewriting.specs.Answering.{property_of, index_of}
use Rattle.theory_rewriting.specs.Context.{knowing}
use Rattle.theory_rewriting.specs.Indexing.{expr_at}
use Rattle.theory_rewriting.specs.Known.{Known}
use Rattle.theory_rewriting.specs.Normal.{IsNormal, HasNormalParts}
use Rattle.theory_rewriting.specs.Parts.{constant_of, named, link}
use Rattle.theory_rewriting.specs.Rewriting.{BaseTo, base, by_expr_rule}
use Rattle.theory_rewriting.specs.Rules as rule
use Rattle.theory_rewriting.specs.Rules.{StepRule, ChainRule}
use Rattle.theory_rewriting.specs.Steps.{Place, MayBecome, NoExprRule}
use Rattle.opt_base.specs.Standing.{may_stand}
use Rattle.opt_chains.specs.Answers.{whole_value, method_answer, word_answer, answer_at, constant_answer, entry_of, known_answer, allowed}
use Rattle.opt_chains.specs.Literals.{integer_of, element_for, entry_for, allowed_part, literal_part, literal_answer}
use Rattle.opt_chains.specs.Chains.{ends_in_unit}
use Rattle.opt_chains.specs.Onward.{argument, onward}
use Rattle.opt_chains.proofs.Steps.{stood}

none_is : {A B : Type 0} {v : B} → None ≡ Some v → A
none_is {v = v} h = absurd (let z : None ≡ Some v = h in cc)

-- ---- by its right side: the argument of the first step, and what is left behind it

record Reads (breaks : Bool) (b a : Expr) (g : Expr → Expr) : Type 0 where
  first : argument breaks b ≡ a
  rest : (x : Expr) → onward breaks b x ≡ g x

reads_property : (breaks : Bool) (q : PropertyNames) → Reads breaks (Property q) (Property q) (λ x. x)
reads_property true q = record { first = refl; rest = λ x. refl }
reads_property false q = record { first = refl; rest = λ x. refl }

reads_method : (breaks : Bool) (c : Callee) (es : Exprs) → Reads breaks (MethodCall c es) (MethodCall c es) (λ x. x)
reads_method true c es = record { first = refl; rest = λ x. refl }
reads_method false c es = record { first = refl; rest = λ x. refl }

-- a constant is no chain
reads_constant : (breaks : Bool) (i : Expr) (j : Value) → constant_value i ≡ Some j → Reads breaks i i (λ x. x)
reads_constant true i j h = record { first = refl; rest = λ x. refl }
reads_constant false (Dot m a r) j h = none_is h
reads_constant false (Index m a r) j h = none_is h
reads_constant false _ j h = record { first = refl; rest = λ x. refl }

reads_first : (breaks dot : Bool) (m : ChainFlags) (a r : Expr) → breaks ≡ false → Reads breaks (link dot m a r) a (λ x. link dot m x r)
reads_first true dot m a r h = absurd (let z : true ≡ false = h in cc)
reads_first false true m a r h = record { first = refl; rest = λ x. refl }
reads_first false false m a r h = record { first = refl; rest = λ x. refl }

-- ---- what is not allowed is unit

refused_value : (b : Bool) (v : Value) → allowed b (Some v) ≡ None → (b ≡ false) × (constant_of v ≡ UnitConstant)
refused_value true v h = absurd (let z : Some v ≡ None = h in cc)
refused_value false UnitV h = (refl, refl)
refused_value false v h = absurd (let z : Some v ≡ None = h in cc)

refused_part : (b : Bool) (e : Expr) → allowed_part b (Some e) ≡ None → (b ≡ false) × (e ≡ UnitConstant)
refused_part true e h = absurd (let z : Some e ≡ None = h in cc)
refused_part false UnitConstant h = (refl, refl)
refused_part false e h = absurd (let z : Some e ≡ None = h in cc)

-- ---- a constant base in normal form is no literal of an array or a map

module _ {r : Engine} {ks : List Known} where
  array_goes : {A : Type 0} (es : Exprs) (o : Option (List Value)) (v : Value) → IsNormal (BaseTo (knowing r ks)) (ArrayOf es) → constant_values es ≡ o → array_value o ≡ Some v → A
  array_goes es None v n q h = none_is h
  array_goes es (Some vs) v n q h = absurd (let z : DynamicConstant (ArrayV (values vs)) ≡ ArrayOf es = n true true _ (base (by_expr_rule (rule.array_of_constants q)) refl) in cc)

  map_goes : {A : Type 0} (ps : Pairs) (template : List Text) (o : Option (List (Text × Value))) (v : Value) → IsNormal (BaseTo (knowing r ks)) (MapOf ps template) → constant_entries ps ≡ o → map_value o ≡ Some v → A
  map_goes ps template None v n q h = none_is h
  map_goes ps template (Some vs) v n q h = absurd (let z : DynamicConstant (MapV (fields_of vs)) ≡ MapOf ps template = n true true _ (base (by_expr_rule (rule.map_of_constants vs q)) refl) in cc)

  whole : (e : Expr) (v : Value) → IsNormal (BaseTo (knowing r ks)) e → constant_value e ≡ Some v → whole_value e ≡ Some v
  whole (ArrayOf es) v n h = array_goes es (constant_values es) v n refl h
  whole (MapOf ps template) v n h = map_goes ps template (constant_entries ps) v n refl h
  whole _ v n h = h

-- ---- no step answers, no unit ends the chain, and its base is in normal form

record Still (r : Engine) (ks : List Known) (p : Place) (dot : Bool) (f : ChainFlags) (e b : Expr) : Type 0 where
  constants : allowed (may_stand p (onward f.breaks b UnitConstant)) (constant_answer r dot f.negated e (argument f.breaks b)) ≡ None
  names : allowed (may_stand p (onward f.breaks b UnitConstant)) (known_answer ks dot e b) ≡ None
  literals : literal_answer (may_stand p (onward f.breaks b UnitConstant)) dot e (argument f.breaks b) ≡ None
  ends : may_stand p UnitConstant && (f.negated && is_unit_expr e) ≡ false
  normal : IsNormal (BaseTo (knowing r ks)) e

module _ {r : Engine} {ks : List Known} {p : Place} {dot : Bool} {f : ChainFlags} {e b : Expr} (s : Still r ks p dot f e b) where
  abbrev unit : Bool
  unit = may_stand p (onward f.breaks b UnitConstant)

  -- past a `?`
  not_ended : f.negated ≡ true → is_unit_expr e ≡ true → MayBecome p (link dot f e b) UnitConstant → ⊥
  not_ended n u m = absurd (let z : true ≡ false = sym (ap (λ x. x && true) (stood p dot f e b UnitConstant m)) ∙ ap (λ x. may_stand p UnitConstant && x) (sym (ap (λ x. x && is_unit_expr e) n ∙ u)) ∙ s.ends in cc)

  module _ {a : Expr} {g : Expr → Expr} (i : Reads f.breaks b a g) where
    refused : (x : Expr) → unit ≡ false → x ≡ UnitConstant → MayBecome p (link dot f e b) (g x) → ⊥
    refused x q u m = absurd (let z : true ≡ false = sym (stood p dot f e b (g x) m) ∙ ap (λ y. may_stand p (g y)) u ∙ ap (may_stand p) (sym (i.rest UnitConstant)) ∙ q in cc)

    by_value : (o : Option Value) (v : Value) → allowed unit o ≡ None → o ≡ Some v → MayBecome p (link dot f e b) (g (constant_of v)) → ⊥
    by_value o v h q m = let z = refused_value unit v (sym (ap (allowed unit) q) ∙ h) in refused (constant_of v) z.0 z.1 m

    by_constant : (v u : Value) → constant_value e ≡ Some v → answer_at r dot f.negated v a ≡ Some u → MayBecome p (link dot f e b) (g (constant_of u)) → ⊥
    by_constant v u h q m = by_value _ u s.constants (ap (constant_answer r dot f.negated e) i.first ∙ ap (λ o. at_index o (λ w. answer_at r dot f.negated w a)) (whole e v s.normal h) ∙ q) m

    by_known : (v : Value) → known_answer ks dot e b ≡ Some v → MayBecome p (link dot f e b) (g (constant_of v)) → ⊥
    by_known v q m = by_value _ v s.names q m

    by_literal : (x : Expr) → is_pure_expr e ≡ true → literal_part dot e a ≡ Some x → MayBecome p (link dot f e b) (g x) → ⊥
    by_literal x h q m =
        let l : literal_answer unit dot e (argument f.breaks b) ≡ allowed_part unit (Some x) = ap (literal_answer unit dot e) i.first ∙ ap (λ y. if y then allowed_part unit (literal_part dot e a) else None) h ∙ ap (allowed_part unit) q in
        let z = refused_part unit x (sym l ∙ s.literals) in refused x z.0 z.1 m

-- ---- no rule applies

-- a call of a word as a method, past a `?` of no unit
word_is : (r : Engine) (optional : Bool) (v w : Value) (c : Text) → word_answer r v c ≡ Some w → (optional && is_unit v) ≡ false → method_answer r optional v (named c false) no_exprs ≡ Some w
word_is r optional v w c h n = ap (λ x. if not x then word_answer r v c else None) n ∙ h

reads_alone : {r : Engine} {ks : List Known} {dot : Bool} {f : ChainFlags} {e a e' : Expr} → StepRule (knowing r ks) dot f e a e' → Reads f.breaks a a (λ x. x)
reads_alone {f = f} (rule.property_of_constant {p = q} fs h) = reads_property f.breaks q
reads_alone {f = f} (rule.index_of_constant {i = i} v j u h q x) = reads_constant f.breaks i j q
reads_alone {f = f} (rule.element_of_array {i = i} n j h q x y) = reads_constant f.breaks i _ q
reads_alone {f = f} (rule.property_of_map {p = q} h) = reads_property f.breaks q
reads_alone {f = f} (rule.entry_of_map {i = i} x h q) = reads_constant f.breaks i _ q
reads_alone {f = f} (rule.type_of_method v h n) = reads_method f.breaks _ _
reads_alone {f = f} (rule.is_shared_method v h n) = reads_method f.breaks _ _

module _ {r : Engine} {ks : List Known} {p : Place} where
  step_refused : {dot : Bool} {f : ChainFlags} {e a e' b : Expr} {g : Expr → Expr} → StepRule (knowing r ks) dot f e a e' → Still r ks p dot f e b → Reads f.breaks b a g → MayBecome p (link dot f e b) (g e') → ⊥
  step_refused (rule.property_of_constant {p = q} fs h) s i m = by_constant s i (MapV fs) (entry fs q.name) h refl m
  step_refused (rule.index_of_constant v j u h q x) s i m = by_constant s i v u h (ap (index_of (Some v)) q ∙ x) m
  step_refused (rule.element_of_array {es = es} n j h q x y) s i m = by_literal s i _ h (ap (λ o. element_for es (integer_of o)) q ∙ ap (λ o. at_index o (expr_at es)) x ∙ y) m
  step_refused (rule.property_of_map h) s i m = by_literal s i _ h refl m
  step_refused (rule.entry_of_map {ps = ps} x h q) s i m = by_literal s i _ h (ap (entry_for ps) q) m
  step_refused {f = f} (rule.type_of_method v h n) s i m = by_constant s i v _ h (word_is r f.negated v (TextV (mapped_type_name r v)) (codes "type_of") refl n) m
  step_refused {f = f} (rule.is_shared_method v h n) s i m = by_constant s i v _ h (word_is r f.negated v (BoolV false) (codes "is_shared") refl n) m

  refused_rule : {dot : Bool} {f : ChainFlags} {e b e' : Expr} → ChainRule (knowing r ks) dot f e b e' → Still r ks p dot f e b → MayBecome p (link dot f e b) e' → ⊥
  refused_rule (rule.unit_ends n) s m = not_ended s n refl m
  refused_rule (rule.step_answers h) s m = step_refused h s (reads_alone h) m
  refused_rule {f = f} (rule.chain_goes_on next {a = a} n t q h) s m = step_refused h s (reads_first f.breaks next n a t q) m
  refused_rule {f = f} (rule.known_property {p = q} fs h) s m = by_known s (reads_property f.breaks q) (entry fs q.name) (ap (λ o. property_of o q.name) h) m
  refused_rule {f = f} (rule.known_entry {i = i} fs y h q) s m = by_known s (reads_constant f.breaks i _ q) (entry fs y) (ap (λ o. entry_of o (constant_value i)) h ∙ ap (entry_of (Some (MapV fs))) q) m

module _ (r : Engine) (ks : List Known) (p : Place) where
  pub no_rule : (dot : Bool) (f : ChainFlags) (e b : Expr) → allowed (may_stand p (onward f.breaks b UnitConstant)) (constant_answer r dot f.negated e (argument f.breaks b)) ≡ None → allowed (may_stand p (onward f.breaks b UnitConstant)) (known_answer ks dot e b) ≡ None → literal_answer (may_stand p (onward f.breaks b UnitConstant)) dot e (argument f.breaks b) ≡ None → ends_in_unit p (link dot f e b) ≡ false → HasNormalParts (knowing r ks) (link dot f e b) → NoExprRule (knowing r ks) p (link dot f e b)
  no_rule true f e b c n l u h e' (rule.dot_rule q) m = refused_rule q (record { constants = c; names = n; literals = l; ends = u; normal = h.0 }) m
  no_rule false f e b c n l u h e' (rule.index_rule q) m = refused_rule q (record { constants = c; names = n; literals = l; ends = u; normal = h.0 }) m
