-- The steps of chains.
use Rattle.std.proofs.Common.{◌≡◌, ℕ, true, false, List, [], ◌∷◌, ◌++◌, map, Option, Some, None, Result, Ok, Err, refl, sym, ap, ◌∙◌, subst, arith}
use Rattle.std.specs.Prelude.{codes, is_some, option_map}
use Rattle.rhai_base.specs.declared.dynamic.Dynamic.{Dynamic}
use Rattle.rhai_base.specs.Reading.{value_of}
use Rattle.rhai_base.specs.Value.{Text, Value, UnitV, BoolV, IntV, FloatV, CharV, TextV, ArrayV, MapV, PointerV, RangeV, RangeInclusiveV}
use Rattle.theory_meaning.specs.Act.{Answer, At, Store, Act, run}
use Rattle.theory_meaning.specs.Act as act
use Rattle.theory_meaning.specs.ActForms.{answered, ask_method, give}
use Rattle.theory_meaning.specs.Chains.{ask_for, index, property, set_by_host, set_index, set_property}
use Rattle.theory_meaning.specs.Places as places
use Rattle.theory_meaning.specs.Places.{AtEntry, Current, along, inside, part}
use Rattle.theory_meaning.specs.Elements.{at_index}
use Rattle.theory_meaning.specs.Engine.{constant_named}
use Rattle.theory_meaning.specs.Tree.{PropertyNames}
use Rattle.run_places.specs.Reading.{or_unit}
use Rattle.run_state.specs.declared.state.State.{State}
use Rattle.run_steps.specs.declared.steps.placing.Current as declared
use Rattle.run_steps.specs.declared.steps.placing.Current.TheVariants as kind
use Rattle.run_steps.specs.Placing.{root_value, place_meant, made, current_in}
use Rattle.run_state.specs.declared.state.Interrupt.{Interrupt}
use Rattle.run_state.specs.Runs.{Setting, Task, env, Acting, Over, Goes, Leads, Stops, given}
use Rattle.run_state.specs.State.{store_of}
use Rattle.run_state.proofs.Goes.{gives, goes_as, goes_then, leads_then, stops_then}

-- ---- properties

pub property_part : (p : PropertyNames) (c : Current) (v w : Value) (next : Current → Act) → inside v (AtEntry p.name) ≡ Some w → property p c v next ≡ next (part c (AtEntry p.name) (or_unit (inside v (AtEntry p.name))))
property_part p c (MapV fs) w next h = refl
property_part p c UnitV w next h = cc
property_part p c (BoolV b) w next h = cc
property_part p c (IntV n) w next h = cc
property_part p c (FloatV d) w next h = cc
property_part p c (CharV d) w next h = cc
property_part p c (TextV t) w next h = cc
property_part p c (ArrayV vs) w next h = cc
property_part p c (PointerV f vs) w next h = cc
property_part p c (RangeV a b) w next h = cc
property_part p c (RangeInclusiveV a b) w next h = cc

pub property_asks : (p : PropertyNames) (c : Current) (v : Value) (next : Current → Act) → inside v (AtEntry p.name) ≡ None → property p c v next ≡ ask_for p.getter v [] next
property_asks p c (MapV fs) next h = cc
property_asks p c UnitV next h = refl
property_asks p c (BoolV b) next h = refl
property_asks p c (IntV n) next h = refl
property_asks p c (FloatV d) next h = refl
property_asks p c (CharV d) next h = refl
property_asks p c (TextV t) next h = refl
property_asks p c (ArrayV vs) next h = refl
property_asks p c (PointerV f vs) next h = refl
property_asks p c (RangeV a b) next h = refl
property_asks p c (RangeInclusiveV a b) next h = refl

-- ---- the host

is_none_by : {A : Type 0} (o : Option A) → is_some o ≡ false → o ≡ None
is_none_by None h = refl
is_none_by (Some a) h = cc

pub no_part : {A : Type 0} (o : Option A) (f : A → Value) (v : Option Value) → is_some o ≡ false → option_map f o ≡ v → v ≡ None
no_part o f v h e = sym e ∙ ap (option_map f) (is_none_by o h)

module _ {T : Type 0} (here : Setting) (s s2 : State) (r : Result T Interrupt) (k : T → Task) (c : Current) (next : Current → Act) where
  pub property_asked : (name : Text) (args : List Dynamic) (p : PropertyNames) → inside c.value (AtEntry p.name) ≡ None → name ≡ p.getter → args ≡ [] → Leads here (Acting (ask_for name c.value (map value_of args) next)) s r s2 k → Leads here (Acting (property p c c.value next)) s r s2 k
  property_asked name args p h n a q = leads_then here s2 r k (goes_as here _ _ s (ap Acting (property_asks p c c.value next h ∙ (λ j. ask_for (sym n j) c.value (map value_of (sym a j)) next)))) q

  pub index_asked : (v : Value) (i j : Dynamic) → v ≡ c.value → index c v (value_of i) next ≡ ask_for (codes "index$get$") v (value_of j ∷ []) next → Leads here (Acting (ask_for (codes "index$get$") c.value (value_of j ∷ []) next)) s r s2 k → Leads here (Acting (index c c.value (value_of i) next)) s r s2 k
  index_asked v i j e h q = leads_then here s2 r k (goes_as here _ _ s (ap Acting (ap (λ u. index c u (value_of i) next) (sym e) ∙ h ∙ ap (λ u. ask_for (codes "index$get$") u (value_of j ∷ []) next) e))) q

-- ---- what keeps the names

-- the same names
abbrev pub KeepsNames : Store → Store → Type 0
KeepsNames st st' = (st'.scope ≡ st.scope) × (st'.this ≡ st.this) × (st'.globals ≡ st.globals)

-- after a run
abbrev pub Names : act.Result → Store → Type 0
Names (At o st' t) st = KeepsNames st st'

pub kept_by : (here : Setting) (a : Act) (s s' : State) (o : act.Outcome) → ((d : ℕ) → Names (run here.world (env here d) a (store_of s) s.turns) (store_of s)) → Goes here (Acting a) s (Over o) s' → KeepsNames (store_of s) (store_of s')
kept_by here a s s' o k q = subst (λ r. Names r (store_of s)) (q.runs s.turns (omega arith)) (k s.turns)

pub answer_keeps : (here : Setting) (d t : ℕ) (a : Answer) (st st' : Store) → KeepsNames st st' → Names (run here.world (env here d) (answered (λ v u. give v) a) st' t) st
answer_keeps here d t (act.Answers v u) st st' k = k
answer_keeps here d t (act.AnswersThrow v) st st' k = k

same_root : (here : Setting) (r : act.Root) (st st' : Store) → KeepsNames st st' → root_value here st' r ≡ root_value here st r
same_root here (act.OfName x) st st' k = ap (λ es. option_map (λ (y : act.ScopeEntry). y.value) (act.found here.world.engine.constants es x)) k.0
same_root here (act.OfGlobal x) st st' k = ap (λ bs. constant_named bs x) k.2
same_root here act.OfThis st st' k = k.1

pub same_current : (here : Setting) (c : declared.Current) (st st' : Store) → KeepsNames st st' → current_in here st' c ≡ current_in here st c
same_current here (kind.At p) st st' k = ap (λ o. made (kind.At p) (or_unit (at_index o (λ v. along v (place_meant p).keys)))) (same_root here (place_meant p).root st st' k)
same_current here (kind.Loose v) st st' k = refl

-- the host's answer to a method
pub method_keeps : (here : Setting) (f : Text) (v : Value) (vs : List Value) (s s' : State) (a : Value) → Goes here (Acting (ask_method f v vs (λ x y. give x))) s (given a) s' → KeepsNames (store_of s) (store_of s')
method_keeps here f v vs s s' a q = kept_by here _ s s' _ (λ d. answer_keeps here d s.turns (here.world.host.answer (store_of s).calls (record { name = f; receiver = Some v; arguments = vs })) (store_of s) (record (store_of s) { calls = (store_of s).calls ++ (record { name = f; receiver = Some v; arguments = vs }) ∷ [] }) (refl, refl, refl)) q

-- ---- writes

pub property_set_part : (p : PropertyNames) (v : Value) (at : places.Place) (c : Current) (u w : Value) → inside u (AtEntry p.name) ≡ Some w → set_property p v at c u ≡ places.write_place true (places.under (AtEntry p.name) at) v
property_set_part p v at c (MapV fs) w h = refl
property_set_part p v at c UnitV w h = cc
property_set_part p v at c (BoolV b) w h = cc
property_set_part p v at c (IntV n) w h = cc
property_set_part p v at c (FloatV d) w h = cc
property_set_part p v at c (CharV d) w h = cc
property_set_part p v at c (TextV t) w h = cc
property_set_part p v at c (ArrayV vs) w h = cc
property_set_part p v at c (PointerV f vs) w h = cc
property_set_part p v at c (RangeV a b) w h = cc
property_set_part p v at c (RangeInclusiveV a b) w h = cc

pub property_set_asks : (p : PropertyNames) (v : Value) (at : places.Place) (c : Current) (u : Value) → inside u (AtEntry p.name) ≡ None → set_property p v at c u ≡ set_by_host p.setter (v ∷ []) c
property_set_asks p v at c (MapV fs) h = cc
property_set_asks p v at c UnitV h = refl
property_set_asks p v at c (BoolV b) h = refl
property_set_asks p v at c (IntV n) h = refl
property_set_asks p v at c (FloatV d) h = refl
property_set_asks p v at c (CharV d) h = refl
property_set_asks p v at c (TextV t) h = refl
property_set_asks p v at c (ArrayV vs) h = refl
property_set_asks p v at c (PointerV f vs) h = refl
property_set_asks p v at c (RangeV a b) h = refl
property_set_asks p v at c (RangeInclusiveV a b) h = refl

pub is_some_by : {A : Type 0} (o : Option A) (f : A → Value) (v : Option Value) → is_some o ≡ true → option_map f o ≡ v → (w : Value) × (v ≡ Some w)
is_some_by (Some a) f v h e = (f a, sym e)
is_some_by None f v h e = absurd (cc)

module _ {T : Type 0} (here : Setting) (s s2 : State) (r : Result T Interrupt) (k : T → Task) (c : Current) where
  pub set_property_part : (p : PropertyNames) (v : Value) (at : places.Place) (n : Text) → ((w : Value) × (inside c.value (AtEntry p.name) ≡ Some w)) → n ≡ p.name → Leads here (Acting (places.write_place true (places.under (AtEntry n) at) v)) s r s2 k → Leads here (Acting (set_property p v at c c.value)) s r s2 k
  set_property_part p v at n h e q = leads_then here s2 r k (goes_as here _ _ s (ap Acting (property_set_part p v at c c.value h.0 h.1 ∙ ap (λ m. places.write_place true (places.under (AtEntry m) at) v) (sym e)))) q

  pub set_property_asked : (p : PropertyNames) (v : Value) (at : places.Place) → inside c.value (AtEntry p.name) ≡ None → Leads here (Acting (set_by_host p.setter (v ∷ []) c)) s r s2 k → Leads here (Acting (set_property p v at c c.value)) s r s2 k
  set_property_asked p v at h q = leads_then here s2 r k (goes_as here _ _ s (ap Acting (property_set_asks p v at c c.value h))) q

  pub set_index_as : (i v pv : Value) (at : places.Place) (a : Act) → pv ≡ c.value → set_index v at c pv i ≡ a → Leads here (Acting a) s r s2 k → Leads here (Acting (set_index v at c c.value i)) s r s2 k
  set_index_as i v pv at a e h q = leads_then here s2 r k (goes_as here _ _ s (ap Acting (ap (λ u. set_index v at c u i) (sym e) ∙ h))) q

-- ---- setters by the host

module _ (here : Setting) (cur : declared.Current) (s s1 : State) (f : Text) (receiver : Dynamic) (vs : List Value) (is : value_of receiver ≡ (current_in here (store_of s) cur).value) where
  abbrev set_at : Current
  set_at = current_in here (store_of s) cur

  -- what the host answers, whatever is done with it
  abbrev pub Asked : Result (Dynamic × Option Dynamic) Interrupt → Type 0
  Asked r = (next : Value → Option Value → Act) → Leads here (Acting (ask_method f (value_of receiver) vs next)) s r s1 (λ (a : Dynamic × Option Dynamic). Acting (next (value_of a.0) (option_map value_of a.1)))

  to_asked : Goes here (Acting (set_by_host f vs set_at)) s (Acting (ask_method f (value_of receiver) vs (λ v u. places.put_back set_at u))) s
  to_asked = goes_as here _ _ s (ap (λ v. Acting (ask_method f v vs (λ x u. places.put_back set_at u))) (sym is))

  pub host_stops : (x : Interrupt) → Asked (Err x) → Stops here (Acting (set_by_host f vs set_at)) s x s1
  host_stops x q = stops_then here s1 x to_asked (q (λ v u. places.put_back set_at u))

  pub host_sets : (p : Dynamic × Option Dynamic) → Asked (Ok p) → (s2 : State) (r : Result Unit Interrupt) → Leads here (Acting (places.put_back (current_in here (store_of s1) cur) (option_map value_of p.1))) s1 r s2 (λ z. given UnitV) → Leads here (Acting (set_by_host f vs set_at)) s r s2 (λ z. given UnitV)
  host_sets p q s2 r k =
      let stay = method_keeps here f (value_of receiver) vs s s1 (value_of p.0) (goes_then here (q (λ v u. give v)) (gives here _ _ s1 refl)) in
      let same = same_current here cur (store_of s) (store_of s1) stay in
      leads_then here s2 r (λ z. given UnitV) (goes_then here to_asked (goes_then here (q (λ v u. places.put_back set_at u)) (goes_as here _ _ s1 (ap (λ c. Acting (places.put_back c (option_map value_of p.1))) (sym same))))) k

pub ruleset chaining = (property_part, property_asks)
