-- Writes to places.
use Rattle.std.proofs.Common.{◌≡◌, ℕ, Bool, true, false, List, [], ◌∷◌, map, get_or, set, Option, Some, None, Result, Ok, Err, refl, sym, ap, ◌∙◌, subst, arith}
use Rattle.std.specs.Prelude.{option_map}
use Rattle.std.proofs.lemmas.List.{set-get_or}
use Rattle.std.proofs.lemmas.Option.{IfSome_then}
use Rattle.rhai_base.specs.declared.dynamic.Dynamic.{Dynamic}
use Rattle.rhai_base.specs.Reading.{value_of}
use Rattle.rhai_base.specs.Value.{Text, Value, UnitV, BoolV, IntV, FloatV, CharV, TextV, ArrayV, MapV, PointerV, RangeV, RangeInclusiveV}
use Rattle.theory_meaning.specs.Act as act
use Rattle.theory_meaning.specs.Act.{IsConstant, is_constant, ScopeEntry, IsStuck, NoPlace, WriteToConstant, Gives, Ended, Halted, At, Store, Act, OfName, OfGlobal, OfThis, Read, Write, and_then, found, put, read, read_global, read_root, read_this, run, write, write_at, write_global, write_root, write_this}
use Rattle.theory_meaning.specs.ActForms.{value_then}
use Rattle.theory_meaning.specs.Engine.{constant_named}
use Rattle.theory_meaning.specs.Elements.{at_index, index_in, count, value_at as item_at, with_value_at, with_entry}
use Rattle.theory_meaning.specs.Places as places
use Rattle.theory_meaning.specs.Places.{AtIndex, AtEntry, inside, along, with_inside, with_along, or_no_place, write_place}
use Rattle.theory_meaning.specs.Run.{reversed}
use Rattle.run_state.specs.declared.state.Interrupt.{Interrupt}
use Rattle.run_state.specs.declared.state.Interrupt.TheVariants.{Stuck}
use Rattle.run_state.specs.declared.state.State.{State}
use Rattle.run_host.specs.declared.report.Stuck as report
use Rattle.run_host.specs.declared.report.Stuck.TheVariants as why
use Rattle.run_host.specs.Report.{stuck_meant}
use Rattle.run_state.specs.declared.entries.Entry.{Entry}
use Rattle.run_state.specs.Entries.{kind_meant, entry_meant}
use Rattle.run_steps.specs.Placing.{root_value, root_stuck, constant_end, HasRoot}
use Rattle.run_state.specs.Runs.{Setting, Task, Acting, Over, Halting, env, run_of, stopped, stop_of, Goes, Stops, Leads, given}
use Rattle.run_state.specs.State.{store_of}
use Rattle.run_state.specs.Variables.{IsMissing, IsLatest}
use Rattle.run_state.proofs.Goes.{goes_as, goes_then, leads_then, stops_by, stops_then, value_goes, value_stops}
use Rattle.run_steps.proofs.Placing.{constant_value, fails, latest_value, read_goes, read_stops}
use Rattle.run_state.proofs.Variables.{found-latest, found-missing, get-latest, put-latest, set-latest}

-- ---- where keys lead on, a part can be replaced

with_inside_some : (v : Value) (k : places.PlaceKey) (u u' : Value) → inside v k ≡ Some u → (x : Value) × (with_inside v k u' ≡ Some x)
with_inside_some (ArrayV vs) (AtIndex i) u u' h = by (index_in (count vs) i) h where
  by : (o : Option ℕ) → at_index o (item_at vs) ≡ Some u → (x : Value) × (option_map ArrayV (option_map (λ j. with_value_at vs j u') o) ≡ Some x)
  by None q = absurd (cc)
  by (Some j) q = (ArrayV (with_value_at vs j u'), refl)
with_inside_some (ArrayV vs) (AtEntry k) u u' h = absurd (cc)
with_inside_some (MapV fs) (AtEntry k) u u' h = (MapV (with_entry fs k u'), refl)
with_inside_some (MapV fs) (AtIndex i) u u' h = absurd (cc)
with_inside_some UnitV k u u' h = absurd (cc)
with_inside_some (BoolV b) k u u' h = absurd (cc)
with_inside_some (IntV n) k u u' h = absurd (cc)
with_inside_some (FloatV d) k u u' h = absurd (cc)
with_inside_some (CharV d) k u u' h = absurd (cc)
with_inside_some (TextV t) k u u' h = absurd (cc)
with_inside_some (PointerV f vs) k u u' h = absurd (cc)
with_inside_some (RangeV a b) k u u' h = absurd (cc)
with_inside_some (RangeInclusiveV a b) k u u' h = absurd (cc)

abbrev Written : Value → List places.PlaceKey → Value → Type 0
Written v ks w = (x : Value) × (with_along v ks w ≡ Some x)

pub with_along_some : (v : Value) (ks : List places.PlaceKey) (w u : Value) → along v ks ≡ Some u → Written v ks w
with_along_some v [] w u h = (w, refl)
with_along_some v (k ∷ ks) w u h = by (inside v k) refl h (λ u1 q. with_along_some u1 ks w u q) where
  by : (o : Option Value) → inside v k ≡ o → at_index o (λ x. along x ks) ≡ Some u → ((u1 : Value) → along u1 ks ≡ Some u → Written u1 ks w) → Written v (k ∷ ks) w
  by None e q f = absurd (cc)
  by (Some u1) e q f =
      let part : Written u1 ks w = f u1 q in
      let whole : (x : Value) × (with_inside v k part.0 ≡ Some x) = with_inside_some v k u1 part.0 e in
      (whole.0, ap (λ o. at_index o (λ x. at_index (with_along x ks w) (λ u'. with_inside v k u'))) e ∙ ap (λ o. at_index o (λ u'. with_inside v k u')) part.1 ∙ whole.1)

pub with_along_none : (v : Value) (ks : List places.PlaceKey) (w : Value) → along v ks ≡ None → with_along v ks w ≡ None
with_along_none v [] w h = cc
with_along_none v (k ∷ ks) w h = by (inside v k) h (λ u1 q. with_along_none u1 ks w q) where
  by : (o : Option Value) → at_index o (λ x. along x ks) ≡ None → ((u1 : Value) → along u1 ks ≡ None → with_along u1 ks w ≡ None) → at_index o (λ x. at_index (with_along x ks w) (λ u'. with_inside v k u')) ≡ None
  by None q f = refl
  by (Some u1) q f = ap (λ o. at_index o (λ u'. with_inside v k u')) (f u1 q)

-- ---- runs

same_goes : (here : Setting) (f : Task) (s s' : State) → store_of s' ≡ store_of s → s'.turns ≡ s.turns → Goes here f s f s'
same_goes here f s s' e t = record { turns = omega (arith, t); runs = λ d le j. run_of here f d (sym e j) (sym t j) }

-- a state that is the same to a run
same_leads : {T : Type 0} (here : Setting) (f : Task) (s s' : State) (r : Result T Interrupt) (k : T → Task) → store_of s' ≡ store_of s → s'.turns ≡ s.turns → Leads here f s r s k → Leads here f s r s' k
same_leads here f s s' (Ok v) k e t q = goes_then here q (same_goes here (k v) s s' e t)
same_leads here f s s' (Err x) k e t q = IfSome_then (stop_of x) q (λ p h. goes_then here h (same_goes here (Over (stopped p)) s s' e t))

module _ (here : Setting) (must : Bool) (s : State) (ks : List places.PlaceKey) (w : Value) where
  module _ (r : act.Root) where
    abbrev place : places.Place
    place = record { root = r; keys = ks }

    abbrev writes : Value → Act
    writes v = or_no_place (with_along v ks w) (λ u. Write must r u)

    write_by : (v : Value) (o : Option Value) → root_value here (store_of s) r ≡ Some v → with_along v ks w ≡ o → Goes here (Acting (write_place must place w)) s (Acting (or_no_place o (λ u. Write must r u))) s
    write_by v o h k = goes_then here (value_goes here writes (read_goes here s r v h)) (goes_as here _ _ s (ap (λ p. Acting (or_no_place p (λ u. Write must r u))) k))

    pub write_unrooted : (x : Interrupt) → root_value here (store_of s) r ≡ None → stop_of x ≡ Some (Halting (IsStuck (root_stuck r))) → Stops here (Acting (write_place must place w)) s x s
    write_unrooted x h e = value_stops here (Read r) writes s s x (stops_by here _ s s x _ e (read_stops here s r h))

    pub write_nowhere : (v : Value) → root_value here (store_of s) r ≡ Some v → with_along v ks w ≡ None → Stops here (Acting (write_place must place w)) s (Stuck why.NoPlace) s
    write_nowhere v h k = stops_then here s (Stuck why.NoPlace) (write_by v None h k) (stops_by here (Acting (act.Fail NoPlace)) s s (Stuck why.NoPlace) (Halting (IsStuck NoPlace)) refl (fails here s NoPlace))

    write_then : (v u : Value) (s' : State) → root_value here (store_of s) r ≡ Some v → with_along v ks w ≡ Some u → Goes here (Acting (Write must r u)) s (given UnitV) s' → Goes here (Acting (write_place must place w)) s (given UnitV) s'
    write_then v u s' h k q = goes_then here (write_by v (Some u) h k) q

  write_free : (b : Bool) (x : Text) (u : Value) (st : Store) (t : ℕ) → write_at b false x u st t ≡ At (Ended (Gives UnitV)) (record st { scope = put st.scope x u }) t
  write_free true x u st t = refl
  write_free false x u st t = refl

  -- a constant stays as it is
  abbrev constant_outcome : Bool → act.Outcome
  constant_outcome true = Halted (IsStuck WriteToConstant)
  constant_outcome false = Ended (Gives UnitV)

  module _ (r : act.Root) (v : Value) (stands : root_value here (store_of s) r ≡ Some v) (stays : (b : Bool) (u : Value) → must ≡ b → Goes here (Acting (Write must r u)) s (Over (constant_outcome b)) s) where
    abbrev write_here : Act
    write_here = write_place must (place r) w

    constant_leads_by : (b : Bool) (o : Option Value) → must ≡ b → along v ks ≡ o → Leads here (Acting write_here) s (constant_end b o) s (λ z. given UnitV)
    constant_leads_by true None m a = write_nowhere r v stands (with_along_none v ks w a)
    constant_leads_by false None m a = write_nowhere r v stands (with_along_none v ks w a)
    constant_leads_by true (Some p) m a =
        let k = with_along_some v ks w p a in
        stops_by here (Acting write_here) s s (Stuck why.WriteToConstant) (Halting (IsStuck WriteToConstant)) refl (goes_then here (write_by r v (Some k.0) stands k.1) (stays true k.0 m))
    constant_leads_by false (Some p) m a =
        let k = with_along_some v ks w p a in
        write_then r v k.0 s stands k.1 (stays false k.0 m)

    constant_leads : (e : Result Unit Interrupt) → e ≡ constant_end must (along v ks) → Leads here (Acting write_here) s e s (λ z. given UnitV)
    constant_leads e q = subst (λ o. Leads here (Acting write_here) s o s (λ z. given UnitV)) (sym q) (constant_leads_by must (along v ks) refl refl)

  module _ (x : Text) (e : ScopeEntry) (is : found here.world.engine.constants (store_of s).scope x ≡ Some e) (c : is_constant e.kind ≡ true) where
    name_by : (b : Bool) (u : Value) → must ≡ b → (o : act.Outcome) → ((st : Store) (t : ℕ) → write_at b true x u st t ≡ At o st t) → Goes here (Acting (Write must (OfName x) u)) s (Over o) s
    name_by b u m o q = record { turns = omega arith; runs = λ d le. ap (λ f. write must f x u (store_of s) s.turns) is ∙ (λ j. write_at (m j) (c j) x u (store_of s) s.turns) ∙ q (store_of s) s.turns }

    name_stays : (b : Bool) (u : Value) → must ≡ b → Goes here (Acting (Write must (OfName x) u)) s (Over (constant_outcome b)) s
    name_stays true u m = name_by true u m _ (λ st t. refl)
    name_stays false u m = name_by false u m _ (λ st t. refl)

    name_leads : (r : Result Unit Interrupt) → r ≡ constant_end must (along e.value ks) → Leads here (Acting (write_place must (record { root = OfName x; keys = ks }) w)) s r s (λ z. given UnitV)
    name_leads r q = constant_leads (OfName x) e.value (ap (option_map (λ (f : ScopeEntry). f.value)) is) name_stays r q

  module _ (x : Text) where
    global_by : (v : Value) → constant_named (store_of s).globals x ≡ Some v → (b : Bool) (u : Value) → must ≡ b → (o : act.Outcome) → ((st : Store) (t : ℕ) → write_global b (Some v) st t ≡ At o st t) → Goes here (Acting (Write must (OfGlobal x) u)) s (Over o) s
    global_by v is b u m o q = record { turns = omega arith; runs = λ d le. (λ j. write_global (m j) (is j) (store_of s) s.turns) ∙ q (store_of s) s.turns }

    global_stays : (v : Value) → constant_named (store_of s).globals x ≡ Some v → (b : Bool) (u : Value) → must ≡ b → Goes here (Acting (Write must (OfGlobal x) u)) s (Over (constant_outcome b)) s
    global_stays v is true u m = global_by v is true u m _ (λ st t. refl)
    global_stays v is false u m = global_by v is false u m _ (λ st t. refl)

    pub global_leads : (v : Value) → constant_named (store_of s).globals x ≡ Some v → (r : Result Unit Interrupt) → r ≡ constant_end must (along v ks) → Leads here (Acting (write_place must (record { root = OfGlobal x; keys = ks }) w)) s r s (λ z. given UnitV)
    global_leads v is r q = constant_leads (OfGlobal x) v is (global_stays v is) r q

    pub global_unbound : (f : report.Stuck) → HasRoot here (store_of s) (OfGlobal x) (Err f) → Stops here (Acting (write_place must (record { root = OfGlobal x; keys = ks }) w)) s (Stuck f) s
    global_unbound f h = write_unrooted (OfGlobal x) (Stuck f) h.0 (ap (λ g. Some (Halting (IsStuck g))) h.1)

  -- a variable by its name
  module _ (x : Text) (i : ℕ) (l : IsLatest x s.scope.items i) (d : Entry) where
    abbrev old : Entry
    old = get_or s.scope.items i d

    rooted : root_value here (store_of s) (OfName x) ≡ Some (value_of old.value)
    rooted = latest_value here x s.scope.items i l d

    found_old : found here.world.engine.constants (store_of s).scope x ≡ Some (entry_meant old)
    found_old = found-latest here.world.engine.constants x s.scope.items i l ∙ ap (λ e. Some (entry_meant e)) (sym (get-latest x s.scope.items i l d))

    pub name_nowhere : with_along (value_of old.value) ks w ≡ None → Stops here (Acting (write_place must (record { root = OfName x; keys = ks }) w)) s (Stuck why.NoPlace) s
    name_nowhere k = write_nowhere (OfName x) (value_of old.value) rooted k

    scope_after : (v : Dynamic) (es : List Entry) → es ≡ set s.scope.items i (record old { value = v }) → reversed (map entry_meant es) [] ≡ put (store_of s).scope x (value_of v)
    scope_after v es h =
        let here_is : (record old { value = v }) ≡ (record l.here { value = v }) = ap (λ (e : Entry). record e { value = v }) (get-latest x s.scope.items i l d) in
        ap (λ (fs : List Entry). reversed (map entry_meant fs) []) (h ∙ ap (λ e. set s.scope.items i e) here_is ∙ set-latest x s.scope.items i l (record l.here { value = v })) ∙ sym (put-latest x s.scope.items i l v)

    pub name_written : (v : Dynamic) (s' : State) → is_constant (kind_meant old.kind) ≡ false → with_along (value_of old.value) ks w ≡ Some (value_of v) → s'.scope.items ≡ set s.scope.items i (record old { value = v }) → record (store_of s') { scope = (store_of s).scope } ≡ store_of s → s'.turns ≡ s.turns → Goes here (Acting (write_place must (record { root = OfName x; keys = ks }) w)) s (given UnitV) s'
    name_written v s' b k e0 e1 e2 =
        let scope : (store_of s').scope ≡ put (store_of s).scope x (value_of v) = scope_after v s'.scope.items e0 in
        write_then (OfName x) (value_of old.value) (value_of v) s' rooted k
        (record {
          turns = omega (arith, e2);
          runs = λ d le. ap (λ o. write must o x (value_of v) (store_of s) s.turns) found_old ∙ ap (λ c. write_at must c x (value_of v) (store_of s) s.turns) b ∙ write_free must x (value_of v) (store_of s) s.turns ∙ (λ j. At (Ended (Gives UnitV)) (record (sym e1 j) { scope = sym scope j }) (sym e2 j));
        })

  -- by the entry that was taken out and put back, with a value in it
  module _ (x : Text) (i : ℕ) (l : IsLatest x s.scope.items i) (g : Entry) (e : g ≡ get_or s.scope.items i g) (s' : State) (v : Dynamic) (a : s'.scope.items ≡ set s.scope.items i (record g { value = v })) (b : record (store_of s') { scope = (store_of s).scope } ≡ store_of s) (t : s'.turns ≡ s.turns) where
    kept_store : v ≡ g.value → store_of s' ≡ store_of s
    kept_store k =
        let items : s'.scope.items ≡ s.scope.items = a ∙ ap (λ (u : Dynamic). set s.scope.items i (record g { value = u })) k ∙ ap (set s.scope.items i) e ∙ set-get_or s.scope.items i g in
        λ j. record (b j) { scope = reversed (map entry_meant (items j)) [] }

    pub written_at : is_constant (kind_meant g.kind) ≡ false → with_along (value_of g.value) ks w ≡ Some (value_of v) → Goes here (Acting (write_place must (record { root = OfName x; keys = ks }) w)) s (given UnitV) s'
    written_at h k = name_written x i l g v s' (ap (λ (y : Entry). is_constant (kind_meant y.kind)) (sym e) ∙ h) (ap (λ (y : Entry). with_along (value_of y.value) ks w) (sym e) ∙ k) (a ∙ ap (λ (y : Entry). set s.scope.items i (record y { value = v })) e) b t

    pub nowhere_at : v ≡ g.value → with_along (value_of g.value) ks w ≡ None → Stops here (Acting (write_place must (record { root = OfName x; keys = ks }) w)) s (Stuck why.NoPlace) s'
    nowhere_at k h = same_leads {T = Unit} here (Acting (write_place must (record { root = OfName x; keys = ks }) w)) s s' (Err (Stuck why.NoPlace)) (λ z. given UnitV) (kept_store k) t (name_nowhere x i l g (ap (λ (y : Entry). with_along (value_of y.value) ks w) (sym e) ∙ h))

    pub constant_at : (r : Result Unit Interrupt) → v ≡ g.value → is_constant (kind_meant g.kind) ≡ true → r ≡ constant_end must (along (value_of g.value) ks) → Leads here (Acting (write_place must (record { root = OfName x; keys = ks }) w)) s r s' (λ z. given UnitV)
    constant_at r k h q =
        let there : found here.world.engine.constants (store_of s).scope x ≡ Some (entry_meant g) = found_old x i l g ∙ ap (λ y. Some (entry_meant y)) (sym e) in
        same_leads here (Acting (write_place must (record { root = OfName x; keys = ks }) w)) s s' r (λ z. given UnitV) (kept_store k) t (name_leads x (entry_meant g) there h r q)

  -- a name that is not in scope
  module _ (x : Text) (h : IsMissing x s.scope.items) (o : Option Value) (k : constant_named here.world.engine.constants x ≡ o) where
    pub record_unbound : o ≡ None → Stops here (Acting (write_place must (record { root = OfName x; keys = ks }) w)) s (Stuck why.Unbound) s
    record_unbound e = write_unrooted (OfName x) (Stuck why.Unbound) (constant_value here x s.scope.items h ∙ k ∙ e) refl

    pub record_constant : (v : Value) (r : Result Unit Interrupt) → o ≡ Some v → r ≡ constant_end must (along v ks) → Leads here (Acting (write_place must (record { root = OfName x; keys = ks }) w)) s r s (λ z. given UnitV)
    record_constant v r e q = name_leads x (record { name = x; kind = IsConstant; value = v }) (found-missing here.world.engine.constants x s.scope.items h ∙ ap (option_map (λ u. record { name = x; kind = IsConstant; value = u })) (k ∙ e)) refl r q

  pub this_written : (v v' : Dynamic) (s' : State) → s.this ≡ Some v → with_along (value_of v) ks w ≡ Some (value_of v') → s'.this ≡ Some v' → record (store_of s') { this = (store_of s).this } ≡ store_of s → s'.turns ≡ s.turns → Goes here (Acting (write_place must (record { root = OfThis; keys = ks }) w)) s (given UnitV) s'
  this_written v v' s' h k e0 e1 e2 = write_then OfThis (value_of v) (value_of v') s' (ap (option_map value_of) h) k (record {
    turns = omega (arith, e2);
    runs = λ d le. ap (λ o. write_this o (value_of v') (store_of s) s.turns) (ap (option_map value_of) h) ∙ (λ j. At (Ended (Gives UnitV)) (record (sym e1 j) { this = ap (option_map value_of) (sym e0) j }) (sym e2 j));
  })

-- ---- a place without keys is its root

module _ (here : Setting) (must : Bool) (w : Value) (s : State) where
  abbrev on_read : act.Root → ℕ → act.Result → act.Result
  on_read r d p = and_then p (λ e. run here.world (env here d) (value_then (λ u. Write must r w) e))

  name_itself : (x : Text) (d : ℕ) (o : Option ScopeEntry) → found here.world.engine.constants (store_of s).scope x ≡ o → write_root here.world must (OfName x) w (store_of s) s.turns ≡ on_read (OfName x) d (read_root here.world (OfName x) (store_of s) s.turns)
  name_itself x d None h = ap (λ o. act.write must o x w (store_of s) s.turns) h ∙ sym (ap (λ o. on_read (OfName x) d (read o (store_of s) s.turns)) h)
  name_itself x d (Some e) h = sym (ap (λ o. on_read (OfName x) d (read o (store_of s) s.turns)) h)

  global_itself : (x : Text) (d : ℕ) (o : Option Value) → constant_named (store_of s).globals x ≡ o → write_root here.world must (OfGlobal x) w (store_of s) s.turns ≡ on_read (OfGlobal x) d (read_root here.world (OfGlobal x) (store_of s) s.turns)
  global_itself x d None h = ap (λ o. write_global must o (store_of s) s.turns) h ∙ sym (ap (λ o. on_read (OfGlobal x) d (read_global o (store_of s) s.turns)) h)
  global_itself x d (Some v) h = sym (ap (λ o. on_read (OfGlobal x) d (read_global o (store_of s) s.turns)) h)

  this_itself : (d : ℕ) (o : Option Value) → (store_of s).this ≡ o → write_root here.world must OfThis w (store_of s) s.turns ≡ on_read OfThis d (read_root here.world OfThis (store_of s) s.turns)
  this_itself d None h = ap (λ o. act.write_this o w (store_of s) s.turns) h ∙ sym (ap (λ o. on_read OfThis d (read_this o (store_of s) s.turns)) h)
  this_itself d (Some v) h = sym (ap (λ o. on_read OfThis d (read_this o (store_of s) s.turns)) h)

  root_itself : (r : act.Root) (d : ℕ) → write_root here.world must r w (store_of s) s.turns ≡ on_read r d (read_root here.world r (store_of s) s.turns)
  root_itself (OfName x) d = name_itself x d _ refl
  root_itself (OfGlobal x) d = global_itself x d _ refl
  root_itself OfThis d = this_itself d _ refl

  pub to_place : (r : act.Root) → Goes here (Acting (Write must r w)) s (Acting (write_place must (record { root = r; keys = [] }) w)) s
  to_place r = record { turns = omega arith; runs = λ d le. root_itself r d }

-- ---- writes to roots

module _ (here : Setting) (w : Value) (s : State) where
  pub unrooted_write : (p : act.Root) (r : Result Unit Interrupt) → Leads here (Acting (write_place true (record { root = p; keys = [] }) w)) s r s (λ z. given UnitV) → Leads here (Acting (Write true p w)) s r s (λ z. given UnitV)
  unrooted_write p r q = leads_then here s r (λ z. given UnitV) (to_place here true w s p) q

  module _ (x : Text) (i : ℕ) (l : IsLatest x s.scope.items i) (g : Entry) (e : g ≡ get_or s.scope.items i g) (s' : State) (v : Dynamic) (a : s'.scope.items ≡ set s.scope.items i (record g { value = v })) (b : record (store_of s') { scope = (store_of s).scope } ≡ store_of s) (t : s'.turns ≡ s.turns) where
    pub name_replaced : is_constant (kind_meant g.kind) ≡ false → w ≡ value_of v → Goes here (Acting (Write true (OfName x) w)) s (given UnitV) s'
    name_replaced h k = goes_then here (to_place here true w s (OfName x)) (written_at here true s [] w x i l g e s' v a b t h (ap Some k))

    pub constant_refused : v ≡ g.value → is_constant (kind_meant g.kind) ≡ true → Stops here (Acting (Write true (OfName x) w)) s (Stuck why.WriteToConstant) s'
    constant_refused k h = stops_then here s' (Stuck why.WriteToConstant) (to_place here true w s (OfName x)) (constant_at here true s [] w x i l g e s' v a b t (Err (Stuck why.WriteToConstant)) k h refl)

  pub this_replaced : (v v' : Dynamic) (s' : State) → s.this ≡ Some v → w ≡ value_of v' → s'.this ≡ Some v' → record (store_of s') { this = (store_of s).this } ≡ store_of s → s'.turns ≡ s.turns → Goes here (Acting (Write true OfThis w)) s (given UnitV) s'
  this_replaced v v' s' h k e0 e1 e2 = goes_then here (to_place here true w s OfThis) (this_written here true s [] w v v' s' h (ap Some k) e0 e1 e2)
