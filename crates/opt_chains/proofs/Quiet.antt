-- Where no step answers, the chain is none with an answer.
use Rattle.std.proofs.Common.{◌≡◌, ℕ, zero, suc, Bool, true, false, not, cond, List, [], ◌∷◌, Option, Some, None, is_some, refl, sym, ap, ◌∙◌, subst}
use Rattle.std.specs.Prelude.{ℤ, ◌&&◌, ◌⊎◌, if◌then◌else◌}
use Rattle.std.proofs.Common.{inl, inr}
use Rattle.rhai_base.specs.Value.{Text, Value, UnitV, IntV, TextV, values, same_text, is_unit}
use Rattle.theory_meaning.specs.Constants.{constant_value, constant_values, constant_entries, array_value, map_value, joined_value, value_and, entry_and, is_constant, text_constants, where_floatless, are_floatless}
use Rattle.theory_meaning.specs.Elements.{count, value_at, at_index, index_in, element, entry, fields_of}
use Rattle.theory_meaning.specs.Engine.{Engine, or_else}
use Rattle.theory_meaning.specs.Queries.{is_pure_expr, are_pure_exprs, are_pure_pairs}
use Rattle.theory_meaning.specs.Queries.{is_unit as is_unit_expr}
use Rattle.theory_meaning.specs.Tree.{ChainFlags, PropertyNames, Expr, UnitConstant, InterpolatedString, ArrayOf, MapOf, Property, BlockExpr, Dot, Index, And, Or, Coalesce, Exprs, no_exprs, expr, count_exprs, Pairs, no_pairs, pair}
use Rattle.theory_rewriting.specs.Answering.{property_of, index_of, without_question, is_some_value}
use Rattle.theory_rewriting.specs.Indexing.{expr_at, pair_for, or_unit}
use Rattle.theory_rewriting.specs.Parts.{link}
use Rattle.theory_rewriting.specs.Steps.{AnswersNone}
use Rattle.theory_rewriting.proofs.rules.Entries.{value_or, entry_for as value_for}
use Rattle.opt_chains.specs.Answers.{constant_answer, allowed}
use Rattle.opt_chains.specs.Literals.{integer_of, element_for, entry_for, allowed_part, literal_answer}
use Rattle.opt_chains.specs.Onward.{argument}

no : {A : Type 0} → false ≡ true → A
no h = absurd (let z : false ≡ true = h in cc)

some_is : {A : Type 0} (d e : A) → Some d ≡ Some e → d ≡ e
some_is d e h = cc

-- ---- a constant is pure

both_values : (o : Option Value) (p : Option (List Value)) → is_some (value_and o p) ≡ true → (is_some o ≡ true) × (is_some p ≡ true)
both_values None p h = no h
both_values (Some v) None h = no h
both_values (Some v) (Some vs) h = (refl, refl)

both_entries : (k : Text) (o : Option Value) (p : Option (List (Text × Value))) → is_some (entry_and k o p) ≡ true → (is_some o ≡ true) × (is_some p ≡ true)
both_entries k None p h = no h
both_entries k (Some v) None h = no h
both_entries k (Some v) (Some vs) h = (refl, refl)

some_array : (o : Option (List Value)) → is_some (array_value o) ≡ true → is_some o ≡ true
some_array None h = h
some_array (Some vs) h = refl

some_text : (o : Option (List Value)) → is_some (joined_value o) ≡ true → is_some o ≡ true
some_text None h = h
some_text (Some vs) h = refl

some_parts : (b : Bool) (o : Option (List Value)) → is_some (where_floatless b o) ≡ true → is_some o ≡ true
some_parts true o h = h
some_parts false None h = h
some_parts false (Some vs) h = refl

some_map : (o : Option (List (Text × Value))) → is_some (map_value o) ≡ true → is_some o ≡ true
some_map None h = h
some_map (Some vs) h = refl

mutual
  constant_pure : (e : Expr) → is_constant e ≡ true → is_pure_expr e ≡ true
  constant_pure (InterpolatedString es) h = constants_pure es (some_parts (are_floatless es) (constant_values es) (some_text (text_constants es) h))
  constant_pure (ArrayOf es) h = constants_pure es (some_array (constant_values es) h)
  constant_pure (MapOf ps template) h = entries_pure ps (some_map (constant_entries ps) h)
  constant_pure (BlockExpr ss) h = no h
  constant_pure (And es) h = no h
  constant_pure (Or es) h = no h
  constant_pure (Coalesce es) h = no h
  constant_pure _ h = h

  constants_pure : (es : Exprs) → is_some (constant_values es) ≡ true → are_pure_exprs es ≡ true
  constants_pure no_exprs h = refl
  constants_pure (expr e es) h = let z = both_values (constant_value e) (constant_values es) h in ap (λ b. b && are_pure_exprs es) (constant_pure e z.0) ∙ constants_pure es z.1

  entries_pure : (ps : Pairs) → is_some (constant_entries ps) ≡ true → are_pure_pairs ps ≡ true
  entries_pure no_pairs h = refl
  entries_pure (pair k e ps) h = let z = both_entries k (constant_value e) (constant_entries ps) h in ap (λ b. b && are_pure_pairs ps) (constant_pure e z.0) ∙ entries_pure ps z.1

-- ---- parts of constant literals

abbrev value_or_none : Option Expr → Option Value
value_or_none o = at_index o constant_value

both_are : (o : Option Value) (p : Option (List Value)) (vs : List Value) → value_and o p ≡ Some vs → (v : Value) × (ws : List Value) × (o ≡ Some v) × (p ≡ Some ws) × (v ∷ ws ≡ vs)
both_are None p vs h = absurd (let z : None ≡ Some vs = h in cc)
both_are (Some v) None vs h = absurd (let z : None ≡ Some vs = h in cc)
both_are (Some v) (Some ws) vs h = (v, ws, refl, refl, some_is (v ∷ ws) vs h)

count_is : (es : Exprs) (vs : List Value) → constant_values es ≡ Some vs → count (values vs) ≡ count_exprs es
count_is no_exprs vs h = ap (λ ws. count (values ws)) (sym (some_is [] vs h))
count_is (expr e es) vs h = let z = both_are (constant_value e) (constant_values es) vs h in ap (λ ws. count (values ws)) (sym z.4) ∙ ap suc (count_is es z.1 z.3)

value_is : (es : Exprs) (vs : List Value) (k : ℕ) → constant_values es ≡ Some vs → value_at (values vs) k ≡ value_or_none (expr_at es k)
value_is no_exprs vs k h = ap (λ ws. value_at (values ws) k) (sym (some_is [] vs h))
value_is (expr e es) vs zero h = let z = both_are (constant_value e) (constant_values es) vs h in ap (λ ws. value_at (values ws) zero) (sym z.4) ∙ sym z.2
value_is (expr e es) vs (suc k) h = let z = both_are (constant_value e) (constant_values es) vs h in ap (λ ws. value_at (values ws) (suc k)) (sym z.4) ∙ value_is es z.1 k z.3

both_entries_are : (k : Text) (o : Option Value) (p : Option (List (Text × Value))) (vs : List (Text × Value)) → entry_and k o p ≡ Some vs → (v : Value) × (ws : List (Text × Value)) × (o ≡ Some v) × (p ≡ Some ws) × ((k, v) ∷ ws ≡ vs)
both_entries_are k None p vs h = absurd (let z : None ≡ Some vs = h in cc)
both_entries_are k (Some v) None vs h = absurd (let z : None ≡ Some vs = h in cc)
both_entries_are k (Some v) (Some ws) vs h = (v, ws, refl, refl, some_is ((k, v) ∷ ws) vs h)

-- the value of a member, or another
abbrev member_or : Value → Option Expr → Option Value
member_or d None = Some d
member_or d (Some e) = constant_value e

member_by : (e : Expr) (v d : Value) (o : Option Expr) (b : Bool) → constant_value e ≡ Some v → member_or (cond b v d) o ≡ member_or d (or_else o (cond b (Some e) None))
member_by e v d (Some y) b h = refl
member_by e v d None true h = sym h
member_by e v d None false h = refl

member_is : (ps : Pairs) (vs : List (Text × Value)) (d : Value) (x : Text) → constant_entries ps ≡ Some vs → Some (value_or d vs x) ≡ member_or d (pair_for ps x)
member_is no_pairs vs d x h = ap (λ ws. Some (value_or d ws x)) (sym (some_is [] vs h))
member_is (pair k e ps) vs d x h =
    let z = both_entries_are k (constant_value e) (constant_entries ps) vs h in
    ap (λ ws. Some (value_or d ws x)) (sym z.4) ∙ member_is ps z.1 (cond (same_text k x) z.0 d) x z.3 ∙ member_by e z.0 d (pair_for ps x) (same_text k x) z.2

or_unit_is : (o : Option Expr) → member_or UnitV o ≡ constant_value (or_unit o)
or_unit_is None = refl
or_unit_is (Some e) = refl

entry_is : (ps : Pairs) (vs : List (Text × Value)) (x : Text) → constant_entries ps ≡ Some vs → Some (entry (fields_of vs) x) ≡ value_or_none (Some (or_unit (pair_for ps x)))
entry_is ps vs x h = ap Some (value_for vs x) ∙ member_is ps vs UnitV x h ∙ or_unit_is (pair_for ps x)

-- ---- no answer, or unit where none may stand

none_allowed : (unit : Bool) (o : Option Value) → allowed unit o ≡ None → is_some_value o ≡ false
none_allowed true None h = refl
none_allowed true (Some v) h = absurd (let z : Some v ≡ None = h in cc)
none_allowed false None h = refl
none_allowed false (Some v) h = by (is_unit v) h where
  by : (b : Bool) → (if b then None else Some v) ≡ None → not b ≡ false
  by true h = refl
  by false h = absurd (let z : Some v ≡ None = h in cc)

literal_unit : (e : Expr) → is_unit_expr e ≡ true → is_some_value (constant_value e) ≡ false
literal_unit UnitConstant h = refl
literal_unit _ h = no h

no_part : (unit : Bool) (o : Option Expr) → allowed_part unit o ≡ None → is_some_value (value_or_none o) ≡ false
no_part true None h = refl
no_part true (Some e) h = absurd (let z : Some e ≡ None = h in cc)
no_part false None h = refl
no_part false (Some e) h = by (is_unit_expr e) refl h where
  by : (b : Bool) → is_unit_expr e ≡ b → (if b then None else Some e) ≡ None → is_some_value (constant_value e) ≡ false
  by true q h = literal_unit e q
  by false q h = absurd (let z : Some e ≡ None = h in cc)

asked : (b : Bool) (o : Option Value) → is_some_value o ≡ false → is_some_value (without_question b o) ≡ false
asked true o h = refl
asked false o h = h

if_pure : (b : Bool) (o : Option Expr) → b ≡ true → (if b then o else None) ≡ None → o ≡ None
if_pure true o p h = h
if_pure false o p h = no p

-- ---- by what the base is

abbrev NoValue : Option Value → Type 0
NoValue o = is_some_value o ≡ false

array_property : (o : Option (List Value)) (x : Text) → NoValue (property_of (array_value o) x)
array_property None x = refl
array_property (Some vs) x = refl

map_property : (unit : Bool) (ps : Pairs) (template : List Text) (p : PropertyNames) (o : Option (List (Text × Value))) → constant_entries ps ≡ o → literal_answer unit true (MapOf ps template) (Property p) ≡ None → NoValue (property_of (map_value o) p.name)
map_property unit ps template p None q h = refl
map_property unit ps template p (Some vs) q h =
    subst NoValue (sym (entry_is ps vs p.name q))
    (no_part unit (Some (or_unit (pair_for ps p.name))) (if_pure (are_pure_pairs ps) _ (entries_pure ps (ap is_some q)) h))

whole_property : (unit : Bool) (o : Option Value) (x : Text) → allowed unit (at_index o (λ v. property_of (Some v) x)) ≡ None → NoValue (property_of o x)
whole_property unit None x h = refl
whole_property unit (Some v) x h = none_allowed unit (property_of (Some v) x) h

property_quiet : (r : Engine) (unit optional : Bool) (e : Expr) (p : PropertyNames) → allowed unit (constant_answer r true optional e (Property p)) ≡ None → literal_answer unit true e (Property p) ≡ None → NoValue (property_of (constant_value e) p.name)
property_quiet r unit optional (ArrayOf es) p h l = array_property (constant_values es) p.name
property_quiet r unit optional (MapOf ps template) p h l = map_property unit ps template p (constant_entries ps) refl l
property_quiet r unit optional e p h l = whole_property unit (constant_value e) p.name h

array_element : (unit : Bool) (es : Exprs) (vs : List Value) (n : ℤ) → constant_values es ≡ Some vs → allowed_part unit (element_for es (Some n)) ≡ None → NoValue (element (values vs) n)
array_element unit es vs n q h = subst (λ m. NoValue (at_index (index_in m n) (value_at (values vs)))) (sym (count_is es vs q)) (by (index_in (count_exprs es) n) h) where
  by : (o : Option ℕ) → allowed_part unit (at_index o (expr_at es)) ≡ None → NoValue (at_index o (value_at (values vs)))
  by None h = refl
  by (Some k) h = subst NoValue (sym (value_is es vs k q)) (no_part unit (expr_at es k) h)

array_index : (unit : Bool) (es : Exprs) (i : Expr) (o : Option (List Value)) (j : Value) → constant_values es ≡ o → constant_value i ≡ Some j → literal_answer unit false (ArrayOf es) i ≡ None → NoValue (index_of (array_value o) (Some j))
array_index unit es i None j q x h = refl
array_index unit es i (Some vs) (IntV n) q x h =
    array_element unit es vs n q (ap (λ z. allowed_part unit (element_for es (integer_of z))) (sym x) ∙ if_pure (are_pure_exprs es) _ (constants_pure es (ap is_some q)) h)
array_index unit es i (Some vs) _ q x h = refl

map_index : (unit : Bool) (ps : Pairs) (template : List Text) (i : Expr) (o : Option (List (Text × Value))) (j : Value) → constant_entries ps ≡ o → constant_value i ≡ Some j → literal_answer unit false (MapOf ps template) i ≡ None → NoValue (index_of (map_value o) (Some j))
map_index unit ps template i None j q x h = refl
map_index unit ps template i (Some vs) (TextV y) q x h =
    subst NoValue (sym (entry_is ps vs y q))
    (no_part unit (Some (or_unit (pair_for ps y))) (ap (λ z. allowed_part unit (entry_for ps z)) (sym x) ∙ if_pure (are_pure_pairs ps) _ (entries_pure ps (ap is_some q)) h))
map_index unit ps template i (Some vs) _ q x h = refl

whole_index : (unit : Bool) (o u : Option Value) → allowed unit (at_index o (λ v. index_of (Some v) u)) ≡ None → NoValue (index_of o u)
whole_index unit None u h = refl
whole_index unit (Some v) u h = none_allowed unit (index_of (Some v) u) h

no_index : (o : Option Value) → NoValue (index_of o None)
no_index None = refl
no_index (Some v) = refl

index_quiet : (r : Engine) (unit optional : Bool) (e i : Expr) (o : Option Value) → constant_value i ≡ o → allowed unit (constant_answer r false optional e i) ≡ None → literal_answer unit false e i ≡ None → NoValue (index_of (constant_value e) o)
index_quiet r unit optional e i None q h l = no_index (constant_value e)
index_quiet r unit optional (ArrayOf es) i (Some j) q h l = array_index unit es i (constant_values es) j refl q l
index_quiet r unit optional (MapOf ps template) i (Some j) q h l = map_index unit ps template i (constant_entries ps) j refl q l
index_quiet r unit optional e i (Some j) q h l = whole_index unit (constant_value e) (Some j) (ap (λ z. allowed unit (at_index (constant_value e) (λ v. index_of (Some v) z))) (sym q) ∙ h)

-- ---- a chain

property_argument : (breaks : Bool) (p : PropertyNames) → argument breaks (Property p) ≡ Property p
property_argument true p = refl
property_argument false p = refl

-- the right side of an index that goes on is no constant
index_argument : (breaks : Bool) (i : Expr) → (argument breaks i ≡ i) ⊎ (constant_value i ≡ None)
index_argument true i = inl refl
index_argument false (Dot m a r) = inr refl
index_argument false (Index m a r) = inr refl
index_argument false _ = inl refl

pub chain_quiet : (r : Engine) (unit dot : Bool) (f : ChainFlags) (e b : Expr) → allowed unit (constant_answer r dot f.negated e (argument f.breaks b)) ≡ None → literal_answer unit dot e (argument f.breaks b) ≡ None → AnswersNone (link dot f e b)
chain_quiet r unit true f e (Property p) h l =
    let q = property_argument f.breaks p in
    asked f.negated _ (property_quiet r unit f.negated e p (ap (λ a. allowed unit (constant_answer r true f.negated e a)) (sym q) ∙ h) (ap (λ a. literal_answer unit true e a) (sym q) ∙ l))
chain_quiet r unit true f e _ h l = refl
chain_quiet r unit false f e b h l = asked f.negated _ (by (index_argument f.breaks b)) where
  by : (argument f.breaks b ≡ b) ⊎ (constant_value b ≡ None) → NoValue (index_of (constant_value e) (constant_value b))
  by (inl q) = index_quiet r unit f.negated e b (constant_value b) refl (ap (λ a. allowed unit (constant_answer r false f.negated e a)) (sym q) ∙ h) (ap (λ a. literal_answer unit false e a) (sym q) ∙ l)
  by (inr q) = subst (λ o. NoValue (index_of (constant_value e) o)) (sym q) (no_index (constant_value e))
