-- The rules at a chain: a lemma for each, whether the chain ends with its first step or goes on.
use Rattle.std.proofs.Common.{◌≡◌, ℕ, Bool, true, false, not, List, [], ◌∷◌, Option, Some, None, refl, sym, ap, ◌∙◌, subst, inl, inr}
use Rattle.std.specs.Prelude.{ℤ, ◌&&◌, ◌⊎◌, codes, if◌then◌else◌}
use Rattle.rhai_base.specs.Value.{Text, Value, BoolV, IntV, TextV, MapV, same_text, is_unit}
use Rattle.theory_meaning.specs.Constants.{constant_value}
use Rattle.theory_meaning.specs.Elements.{at_index, index_in, entry}
use Rattle.theory_meaning.specs.Engine.{Engine, mapped_type_name}
use Rattle.theory_meaning.specs.Queries.{is_pure_expr, are_pure_exprs, are_pure_pairs}
use Rattle.theory_meaning.specs.Queries.{is_unit as is_unit_expr}
use Rattle.theory_meaning.specs.Shape.{is_argument, is_none}
use Rattle.theory_meaning.specs.Tree.{CallToken, NoToken, Callee, ChainFlags, PropertyNames, Expr, UnitConstant, ArrayOf, MapOf, Variable, Property, MethodCall, Dot, Index, Exprs, no_exprs, expr, count_exprs, Pairs}
use Rattle.theory_rewriting.specs.Answering.{property_of, index_of}
use Rattle.theory_rewriting.specs.Clear.{known_value}
use Rattle.theory_rewriting.specs.Context.{Context, knowing}
use Rattle.theory_rewriting.specs.Indexing.{expr_at, pair_for, or_unit}
use Rattle.theory_rewriting.specs.Known.{Known}
use Rattle.theory_rewriting.specs.Parts.{constant_of, named, link}
use Rattle.theory_rewriting.specs.Rules as rule
use Rattle.theory_rewriting.specs.Rules.{StepRule, ChainRule}
use Rattle.theory_rewriting.specs.Steps.{Place}
use Rattle.theory_rewriting.proofs.Keeping.{keeps_constant_of}
use Rattle.theory_rewriting.proofs.Reducing.{root_of_value, unit_of_value}
use Rattle.theory_rewriting.proofs.rules.Chains.{linked}
use Rattle.theory_rewriting.proofs.rules.Equality.{text_is}
use Rattle.theory_meaning.proofs.PureTrees.{split}
use Rattle.opt_base.specs.Standing.{may_stand}
use Rattle.opt_chains.specs.Answers.{whole_value, has_no_token, is_empty, is_bare, method_answer, member_answer, answer_at, constant_answer, entry_of, known_answer}
use Rattle.opt_chains.specs.Literals.{integer_of, element_for, entry_for, property_for, literal_part}
use Rattle.opt_chains.specs.Onward.{argument, onward, Rewrites}
use Rattle.opt_chains.proofs.ChainParts.{IsPart, constant_is_part, element_is_part, entry_is_part}
use Rattle.opt_chains.proofs.Steps.{StepCase, alone, first, step_cases, part_may_stand, stands_there, keeps_step}

-- what the first step of a chain over e answers, by its argument a
pub record Answers (k : Context) (dot : Bool) (f : ChainFlags) (e a part : Expr) : Type 0 where
  pub fits : is_argument dot a ≡ true
  pub is_part : IsPart e part
  pub rule : StepRule k dot f e a part

-- the chain becomes that, or goes on from it
chain_rule : {k : Context} {dot : Bool} {f : ChainFlags} {e a part b : Expr} {g : Expr → Expr} → StepRule k dot f e a part → StepCase f.breaks b a g → ChainRule k dot f e b (g part)
chain_rule h alone = rule.step_answers h
chain_rule h (first next m a r q) = rule.chain_goes_on next m r q h

-- it takes the place of the base and of that step
pub rewrites : {r : Engine} {ks : List Known} (p : Place) (dot : Bool) (f : ChainFlags) (e b part : Expr) → Answers (knowing r ks) dot f e (argument f.breaks b) part → may_stand p (onward f.breaks b part) ≡ true → Rewrites r ks p (link dot f e b) (onward f.breaks b part)
rewrites p dot f e b part h s =
    let c = step_cases f.breaks b in
    record { rule = linked dot (chain_rule h.rule c); stays = stands_there p dot f e b (onward f.breaks b part) s; keeps = keeps_step dot f e part c h.fits h.is_part }

none_is : {A B : Type 0} {v : B} → None ≡ Some v → A
none_is {v = v} h = absurd (let z : None ≡ Some v = h in cc)

some_is : {A : Type 0} (d e : A) → Some d ≡ Some e → d ≡ e
some_is d e h = cc

-- ---- what answers at a constant

pub whole_is : (e : Expr) (v : Value) → whole_value e ≡ Some v → constant_value e ≡ Some v
whole_is (ArrayOf es) v h = none_is h
whole_is (MapOf ps template) v h = none_is h
whole_is _ v h = h

if_true : {A : Type 0} (b : Bool) (o : Option A) (v : A) → (if b then o else None) ≡ Some v → (b ≡ true) × (o ≡ Some v)
if_true true o v h = (refl, h)
if_true false o v h = none_is h

not_false : (b : Bool) → not b ≡ true → b ≡ false
not_false true h = absurd (let z : false ≡ true = h in cc)
not_false false h = refl

no_path : (ns : List Text) → is_none ns ≡ true → ns ≡ []
no_path [] h = refl
no_path (n ∷ ns) h = absurd (let z : false ≡ true = h in cc)

no_token : (t : CallToken) → has_no_token t ≡ true → t ≡ NoToken
no_token NoToken h = refl
no_token _ h = absurd (let z : false ≡ true = h in cc)

no_arguments : (es : Exprs) → is_empty es ≡ true → es ≡ no_exprs
no_arguments no_exprs h = refl
no_arguments (expr e es) h = absurd (let z : false ≡ true = h in cc)

abbrev callee_by : List Text → Text → Bool → CallToken → Callee
callee_by ns x captures t = record { namespace = ns; name = x; captures = captures; token = t }

-- a bare call is one of a name alone
bare_call : (c : Callee) (es : Exprs) (x : Text) → is_bare c es ≡ true → c.name ≡ x → MethodCall (named x false) no_exprs ≡ MethodCall c es
bare_call c es x h q =
    let a = split (is_none c.namespace) _ h in
    let b = split (not c.captures) _ a.1 in
    let d = split (has_no_token c.token) _ b.1 in
    sym (ap (λ ns. MethodCall (callee_by ns c.name c.captures c.token) es) (no_path c.namespace a.0)
    ∙ ap (λ y. MethodCall (callee_by [] y c.captures c.token) es) q
    ∙ ap (λ y. MethodCall (callee_by [] x y c.token) es) (not_false c.captures b.0)
    ∙ ap (λ t. MethodCall (callee_by [] x false t) es) (no_token c.token d.0)
    ∙ ap (λ z. MethodCall (named x false) z) (no_arguments es d.1))

module _ (k : Context) (f : ChainFlags) (e : Expr) where
  abbrev Gives : Bool → Expr → Value → Type 0
  Gives dot a v = Answers k dot f e a (constant_of v)

  property_gives : (p : PropertyNames) (u v : Value) → constant_value e ≡ Some u → property_of (Some u) p.name ≡ Some v → Gives true (Property p) v
  property_gives p (MapV fs) v h q =
      subst (Gives true (Property p)) (some_is (entry fs p.name) v q) (record { fits = refl; is_part = constant_is_part e (entry fs p.name); rule = rule.property_of_constant fs h })
  property_gives p _ v h q = none_is q

  word_gives : (u v : Value) (c : Callee) (es : Exprs) (a b : Bool) → constant_value e ≡ Some u → is_bare c es ≡ true → (f.negated && is_unit u) ≡ false → same_text c.name (codes "type_of") ≡ a → same_text c.name (codes "is_shared") ≡ b → (if a then Some (TextV (mapped_type_name k.engine u)) else if b then Some (BoolV false) else None) ≡ Some v → Gives true (MethodCall c es) v
  word_gives u v c es true b h i n x y q =
      subst (Gives true (MethodCall c es)) (some_is (TextV (mapped_type_name k.engine u)) v q)
      (subst (λ m. Gives true m (TextV (mapped_type_name k.engine u))) (bare_call c es (codes "type_of") i (text_is c.name (codes "type_of") x)) (record { fits = refl; is_part = constant_is_part e (TextV (mapped_type_name k.engine u)); rule = rule.type_of_method u h n }))
  word_gives u v c es false true h i n x y q =
      subst (Gives true (MethodCall c es)) (some_is (BoolV false) v q)
      (subst (λ m. Gives true m (BoolV false)) (bare_call c es (codes "is_shared") i (text_is c.name (codes "is_shared") y)) (record { fits = refl; is_part = constant_is_part e (BoolV false); rule = rule.is_shared_method u h n }))
  word_gives u v c es false false h i n x y q = none_is q

  method_gives : (u v : Value) (c : Callee) (es : Exprs) → constant_value e ≡ Some u → method_answer k.engine f.negated u c es ≡ Some v → Gives true (MethodCall c es) v
  method_gives u v c es h q =
      let z = if_true (is_bare c es && not (f.negated && is_unit u)) _ v q in
      let y = split (is_bare c es) (not (f.negated && is_unit u)) z.0 in
      word_gives u v c es (same_text c.name (codes "type_of")) (same_text c.name (codes "is_shared")) h y.0 (not_false _ y.1) refl refl z.1

  member_gives : (a : Expr) (u v : Value) → constant_value e ≡ Some u → member_answer k.engine f.negated u a ≡ Some v → Gives true a v
  member_gives (Property p) u v h q = property_gives p u v h q
  member_gives (MethodCall c es) u v h q = method_gives u v c es h q
  member_gives _ u v h q = none_is q

  index_gives : (a : Expr) (u v : Value) (o : Option Value) → constant_value e ≡ Some u → constant_value a ≡ o → index_of (Some u) o ≡ Some v → Gives false a v
  index_gives a u v None h x q = none_is q
  index_gives a u v (Some j) h x q = record { fits = refl; is_part = constant_is_part e v; rule = rule.index_of_constant u j v h x q }

  answer_gives : (dot : Bool) (a : Expr) (o : Option Value) (v : Value) → whole_value e ≡ o → at_index o (λ u. answer_at k.engine dot f.negated u a) ≡ Some v → Gives dot a v
  answer_gives dot a None v h q = none_is q
  answer_gives true a (Some u) v h q = member_gives a u v (whole_is e u h) q
  answer_gives false a (Some u) v h q = index_gives a u v (constant_value a) (whole_is e u h) refl q

-- where unit may stand, or the value is another
value_may_stand : (p : Place) (breaks : Bool) (b : Expr) (v : Value) → (may_stand p (onward breaks b UnitConstant) ≡ true) ⊎ (is_unit v ≡ false) → may_stand p (onward breaks b (constant_of v)) ≡ true
value_may_stand p breaks b v (inl h) = part_may_stand p (constant_of v) (step_cases breaks b) (root_of_value v) (inl h)
value_may_stand p breaks b v (inr h) = part_may_stand p (constant_of v) (step_cases breaks b) (root_of_value v) (inr (unit_of_value v ∙ h))

pub constant_rewrites : (r : Engine) (ks : List Known) (p : Place) (dot : Bool) (f : ChainFlags) (e b : Expr) (v : Value) → constant_answer r dot f.negated e (argument f.breaks b) ≡ Some v → (may_stand p (onward f.breaks b UnitConstant) ≡ true) ⊎ (is_unit v ≡ false) → Rewrites r ks p (link dot f e b) (onward f.breaks b (constant_of v))
constant_rewrites r ks p dot f e b v h s = rewrites p dot f e b (constant_of v) (answer_gives (knowing r ks) f e dot (argument f.breaks b) (whole_value e) v refl h) (value_may_stand p f.breaks b v s)

-- ---- what answers at a literal

module _ (k : Context) (f : ChainFlags) where
  integer_is : (o : Option Value) (n : ℤ) → integer_of o ≡ Some n → o ≡ Some (IntV n)
  integer_is (Some (IntV m)) n h = ap (λ x. Some (IntV x)) (some_is m n h)
  integer_is _ n h = none_is h

  element_at : (es : Exprs) (a part : Expr) (n : ℤ) (o : Option ℕ) → are_pure_exprs es ≡ true → constant_value a ≡ Some (IntV n) → index_in (count_exprs es) n ≡ o → at_index o (expr_at es) ≡ Some part → Answers k false f (ArrayOf es) a part
  element_at es a part n None h x y q = none_is q
  element_at es a part n (Some j) h x y q = record { fits = refl; is_part = element_is_part es j part h q; rule = rule.element_of_array n j h x y q }

  element_answers : (es : Exprs) (a part : Expr) (o : Option ℤ) → are_pure_exprs es ≡ true → integer_of (constant_value a) ≡ o → element_for es o ≡ Some part → Answers k false f (ArrayOf es) a part
  element_answers es a part None h x q = none_is q
  element_answers es a part (Some n) h x q = element_at es a part n (index_in (count_exprs es) n) h (integer_is (constant_value a) n x) refl q

  entry_answers : (ps : Pairs) (template : List Text) (a part : Expr) (o : Option Value) → are_pure_pairs ps ≡ true → constant_value a ≡ o → entry_for ps o ≡ Some part → Answers k false f (MapOf ps template) a part
  entry_answers ps template a part (Some (TextV x)) h y q =
      subst (Answers k false f (MapOf ps template) a) (some_is (or_unit (pair_for ps x)) part q) (record { fits = refl; is_part = entry_is_part ps template x h; rule = rule.entry_of_map x h y })
  entry_answers ps template a part _ h y q = none_is q

  property_answers : (ps : Pairs) (template : List Text) (a part : Expr) → are_pure_pairs ps ≡ true → property_for ps a ≡ Some part → Answers k true f (MapOf ps template) a part
  property_answers ps template (Property p) part h q =
      subst (Answers k true f (MapOf ps template) (Property p)) (some_is (or_unit (pair_for ps p.name)) part q) (record { fits = refl; is_part = entry_is_part ps template p.name h; rule = rule.property_of_map h })
  property_answers ps template _ part h q = none_is q

  literal_answers : (dot : Bool) (e a part : Expr) → is_pure_expr e ≡ true → literal_part dot e a ≡ Some part → Answers k dot f e a part
  literal_answers false (ArrayOf es) a part h q = element_answers es a part (integer_of (constant_value a)) h refl q
  literal_answers false (MapOf ps template) a part h q = entry_answers ps template a part (constant_value a) h refl q
  literal_answers true (MapOf ps template) a part h q = property_answers ps template a part h q
  literal_answers _ _ a part h q = none_is q

pub literal_rewrites : (r : Engine) (ks : List Known) (p : Place) (dot : Bool) (f : ChainFlags) (e b part : Expr) → is_pure_expr e ≡ true → literal_part dot e (argument f.breaks b) ≡ Some part → (may_stand p (onward f.breaks b UnitConstant) ≡ true) ⊎ (is_unit_expr part ≡ false) → Rewrites r ks p (link dot f e b) (onward f.breaks b part)
literal_rewrites r ks p dot f e b part h q s =
    let a = literal_answers (knowing r ks) f dot e (argument f.breaks b) part h q in
    rewrites p dot f e b part a (part_may_stand p part (step_cases f.breaks b) a.is_part.no_root s)

-- ---- what answers at a known name

onward_property : (breaks : Bool) (p : PropertyNames) (x : Expr) → x ≡ onward breaks (Property p) x
onward_property true p x = refl
onward_property false p x = refl

onward_constant : (breaks : Bool) (b x : Expr) (j : Value) → constant_value b ≡ Some j → x ≡ onward breaks b x
onward_constant true b x j h = refl
onward_constant false (Dot m a r) x j h = none_is h
onward_constant false (Index m a r) x j h = none_is h
onward_constant false _ x j h = refl

module _ (r : Engine) (ks : List Known) (p : Place) (f : ChainFlags) where
  abbrev Knows : Bool → Expr → Expr → Value → Type 0
  Knows dot e b v = Rewrites r ks p (link dot f e b) (onward f.breaks b (constant_of v))

  known_by : (dot : Bool) (e b : Expr) (v : Value) → constant_of v ≡ onward f.breaks b (constant_of v) → may_stand p (onward f.breaks b (constant_of v)) ≡ true → ChainRule (knowing r ks) dot f e b (constant_of v) → Knows dot e b v
  known_by dot e b v q s h =
      let m : may_stand p (constant_of v) ≡ true = subst (λ x. may_stand p x ≡ true) (sym q) s in
      subst (Rewrites r ks p (link dot f e b)) q (record { rule = linked dot h; stays = stands_there p dot f e b (constant_of v) m; keeps = keeps_constant_of (link dot f e b) v })

  known_property : (ns : List Text) (x : Text) (q : PropertyNames) (v : Value) (o : Option Value) → known_value ks (Variable ns x) ≡ o → property_of o q.name ≡ Some v → may_stand p (onward f.breaks (Property q) (constant_of v)) ≡ true → Knows true (Variable ns x) (Property q) v
  known_property ns x q v (Some (MapV fs)) h y s =
      let i = some_is (entry fs q.name) v y in
      known_by true (Variable ns x) (Property q) v (onward_property f.breaks q (constant_of v)) s (subst (λ z. ChainRule (knowing r ks) true f (Variable ns x) (Property q) (constant_of z)) i (rule.known_property fs h))
  known_property ns x q v _ h y s = none_is y

  known_entry : (ns : List Text) (x : Text) (b : Expr) (v : Value) (o u : Option Value) → known_value ks (Variable ns x) ≡ o → constant_value b ≡ u → entry_of o u ≡ Some v → may_stand p (onward f.breaks b (constant_of v)) ≡ true → Knows false (Variable ns x) b v
  known_entry ns x b v (Some (MapV fs)) (Some (TextV y)) h i q s =
      let z = some_is (entry fs y) v q in
      known_by false (Variable ns x) b v (onward_constant f.breaks b (constant_of v) (TextV y) i) s (subst (λ w. ChainRule (knowing r ks) false f (Variable ns x) b (constant_of w)) z (rule.known_entry fs y h i))
  known_entry ns x b v _ _ h i q s = none_is q

  known_gives : (dot : Bool) (e b : Expr) (v : Value) → known_answer ks dot e b ≡ Some v → may_stand p (onward f.breaks b (constant_of v)) ≡ true → Knows dot e b v
  known_gives true (Variable ns x) (Property q) v h s = known_property ns x q v (known_value ks (Variable ns x)) refl h s
  known_gives true _ (Property q) v h s = none_is h
  known_gives true e _ v h s = none_is h
  known_gives false (Variable ns x) b v h s = known_entry ns x b v (known_value ks (Variable ns x)) (constant_value b) refl refl h s
  known_gives false _ b v h s = none_is h

pub known_rewrites : (r : Engine) (ks : List Known) (p : Place) (dot : Bool) (f : ChainFlags) (e b : Expr) (v : Value) → known_answer ks dot e b ≡ Some v → (may_stand p (onward f.breaks b UnitConstant) ≡ true) ⊎ (is_unit v ≡ false) → Rewrites r ks p (link dot f e b) (onward f.breaks b (constant_of v))
known_rewrites r ks p dot f e b v h s = known_gives r ks p f dot e b v h (value_may_stand p f.breaks b v s)
