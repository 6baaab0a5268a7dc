-- What stands at places, and the runs of the acts on them.
use Rattle.std.proofs.Common.{◌≡◌, ℕ, List, [], ◌∷◌, ◌++◌, map, get_or, Option, Some, None, Ok, Err, refl, sym, ap, subst, ◌∙◌, arith}
use Rattle.std.specs.Prelude.{option_map}
use Rattle.std.proofs.lemmas.List.{map-append}
use Rattle.rhai_base.specs.declared.dynamic.Dynamic.{Dynamic}
use Rattle.rhai_base.specs.Reading.{value_of}
use Rattle.rhai_base.specs.Value.{Text, Value, UnitV}
use Rattle.theory_meaning.specs.Act as act
use Rattle.theory_meaning.specs.Act.{IsConstant, ScopeEntry, IsStuck, Unbound, NoPlace, Gives, Ended, Halted, At, Store, Act, OfName, OfGlobal, OfThis, Read, found, read, read_global, read_this, read_root}
use Rattle.theory_meaning.specs.ActForms.{give}
use Rattle.theory_meaning.specs.Engine.{constant_named}
use Rattle.theory_meaning.specs.Elements.{at_index}
use Rattle.theory_meaning.specs.Places as places
use Rattle.theory_meaning.specs.Places.{inside, along, or_no_place, part, without_place}
use Rattle.theory_meaning.specs.Run.{reversed}
use Rattle.run_places.specs.declared.places.PlaceKey.{PlaceKey}
use Rattle.run_places.specs.declared.standing.Part.{Part}
use Rattle.run_places.specs.Reading.{key_meant, part_value, or_unit}
use Rattle.run_steps.specs.declared.steps.placing.Place.{Place}
use Rattle.run_steps.specs.declared.steps.placing.Current.TheVariants as current
use Rattle.run_state.specs.declared.state.Interrupt.TheVariants.{Stuck}
use Rattle.run_state.specs.declared.state.State.{State}
use Rattle.run_steps.specs.declared.nodes.variables.Root.{Root}
use Rattle.run_host.specs.declared.report.Stuck as report
use Rattle.run_host.specs.declared.report.Stuck.TheVariants as why
use Rattle.run_state.specs.declared.entries.Entry.{Entry}
use Rattle.run_state.specs.Entries.{entry_meant}
use Rattle.run_steps.specs.Placing.{place_meant, root_value, root_stuck, value_at, stuck_by, HasPart, HasRoot, current_in}
use Rattle.run_host.specs.Report.{stuck_meant}
use Rattle.run_state.specs.Runs.{Setting, Acting, Over, Halting, Goes, Stops, given}
use Rattle.run_state.specs.State.{store_of}
use Rattle.run_state.specs.Variables.{IsMissing, IsLatest}
use Rattle.run_steps.specs.Variables.{root_meant}
use Rattle.run_state.proofs.Goes.{stops_by}
use Rattle.run_state.proofs.Variables.{found-missing, found-latest, get-latest, latest_below}

-- ---- roots

-- a name that is not in scope is the record's
constant_itself : (x : Text) (o : Option Value) → option_map (λ (e : ScopeEntry). e.value) (option_map (λ v. record { name = x; kind = IsConstant; value = v }) o) ≡ o
constant_itself x None = refl
constant_itself x (Some v) = refl

module _ (here : Setting) (x : Text) (es : List Entry) where
  abbrev named_value : Option Value
  named_value = option_map (λ (e : ScopeEntry). e.value) (found here.world.engine.constants (reversed (map entry_meant es) []) x)

  pub latest_value : (i : ℕ) (l : IsLatest x es i) (d : Entry) → named_value ≡ Some (value_of (get_or es i d).value)
  latest_value i l d = ap (option_map (λ (e : ScopeEntry). e.value)) (found-latest here.world.engine.constants x es i l) ∙ ap (λ (e : Entry). Some (value_of e.value)) (sym (get-latest x es i l d))

  pub constant_value : IsMissing x es → named_value ≡ constant_named here.world.engine.constants x
  constant_value h = ap (option_map (λ (e : ScopeEntry). e.value)) (found-missing here.world.engine.constants x es h) ∙ constant_itself x (constant_named here.world.engine.constants x)

read_found : (o : Option ScopeEntry) (v : Value) (st : Store) (t : ℕ) → option_map (λ (e : ScopeEntry). e.value) o ≡ Some v → read o st t ≡ At (Ended (Gives v)) st t
read_found (Some e) v st t h = let q : e.value ≡ v = cc in ap (λ u. At (Ended (Gives u)) st t) q
read_found None v st t h = cc

read_missing : (o : Option ScopeEntry) (st : Store) (t : ℕ) → option_map (λ (e : ScopeEntry). e.value) o ≡ None → read o st t ≡ At (Halted (IsStuck Unbound)) st t
read_missing None st t h = refl
read_missing (Some e) st t h = cc

-- ---- along keys

at_itself : (o : Option Value) → at_index o (λ w. along w []) ≡ o
at_itself None = refl
at_itself (Some v) = refl

pub along_snoc : (v : Value) (ks : List places.PlaceKey) (k : places.PlaceKey) → along v (ks ++ k ∷ []) ≡ at_index (along v ks) (λ u. inside u k)
along_snoc v [] k = at_itself (inside v k)
along_snoc v (j ∷ js) k = by (inside v j) (λ u. along_snoc u js k) where
  by : (o : Option Value) → ((u : Value) → along u (js ++ k ∷ []) ≡ at_index (along u js) (λ x. inside x k)) → at_index o (λ w. along w (js ++ k ∷ [])) ≡ at_index (at_index o (λ w. along w js)) (λ u. inside u k)
  by None q = refl
  by (Some u) q = q u

unit_is_whole : (j : places.PlaceKey) → inside UnitV j ≡ None
unit_is_whole (places.AtIndex i) = refl
unit_is_whole (places.AtEntry k) = refl

inside_or_unit : (o : Option Value) (k : places.PlaceKey) → or_unit (at_index o (λ u. inside u k)) ≡ or_unit (inside (or_unit o) k)
inside_or_unit None k = sym (ap or_unit (unit_is_whole k))
inside_or_unit (Some v) k = refl

value_snoc : (o : Option Value) (ks : List places.PlaceKey) (k : places.PlaceKey) → or_unit (at_index o (λ v. along v (ks ++ k ∷ []))) ≡ or_unit (inside (or_unit (at_index o (λ v. along v ks))) k)
value_snoc None ks k = sym (ap or_unit (unit_is_whole k))
value_snoc (Some v) ks k = ap or_unit (along_snoc v ks k) ∙ inside_or_unit (along v ks) k

pub at_key_placed : (here : Setting) (st : Store) (r : Root) (ks : List PlaceKey) (k : PlaceKey) → current_in here st (current.At (record { root = r; keys = ks ++ k ∷ [] })) ≡ part (current_in here st (current.At (record { root = r; keys = ks }))) (key_meant k) (or_unit (inside (current_in here st (current.At (record { root = r; keys = ks }))).value (key_meant k)))
at_key_placed here st r ks k =
    let keys : map key_meant (ks ++ k ∷ []) ≡ map key_meant ks ++ key_meant k ∷ [] = map-append key_meant ks (k ∷ []) in
    let o : Option Value = root_value here st (root_meant r) in
    (λ j. record { value = or_unit (at_index o (λ v. along v (keys j))); place = Some (record { root = root_meant r; keys = keys j }) })
    ∙ ap (λ v. record { value = v; place = Some (record { root = root_meant r; keys = map key_meant ks ++ key_meant k ∷ [] }) }) (value_snoc o (map key_meant ks) (key_meant k))

pub at_key_loose : (here : Setting) (st : Store) (v w : Dynamic) (k : PlaceKey) → value_of w ≡ or_unit (inside (value_of v) (key_meant k)) → current_in here st (current.Loose w) ≡ part (current_in here st (current.Loose v)) (key_meant k) (or_unit (inside (current_in here st (current.Loose v)).value (key_meant k)))
at_key_loose here st v w k h = ap without_place h

pub under_is : (r : Root) (ks : List PlaceKey) (k : PlaceKey) → place_meant (record { root = r; keys = ks ++ k ∷ [] }) ≡ places.under (key_meant k) (place_meant (record { root = r; keys = ks }))
under_is r ks k = ap (λ l. record { root = root_meant r; keys = l }) (map-append key_meant ks (k ∷ []))

-- ---- what stands at a place

pub part_stands : (here : Setting) (st : Store) (p : places.Place) (v u : Value) → root_value here st p.root ≡ Some v → along v p.keys ≡ Some u → value_at here st p ≡ Some u
part_stands here st p v u h k = ap (λ o. at_index o (λ w. along w p.keys)) h ∙ k

pub no_root_part : (here : Setting) (st : Store) (p : places.Place) (f : report.Stuck) → root_value here st p.root ≡ None → stuck_meant f ≡ root_stuck p.root → HasPart here st p (Err f)
no_root_part here st p f h k = (ap (λ o. at_index o (λ w. along w p.keys)) h, k ∙ sym (ap (λ o. stuck_by o p.root) h))

pub no_part : (here : Setting) (st : Store) (p : places.Place) (v : Value) → root_value here st p.root ≡ Some v → along v p.keys ≡ None → HasPart here st p (Err why.NoPlace)
no_part here st p v h k = (ap (λ o. at_index o (λ w. along w p.keys)) h ∙ k, sym (ap (λ o. stuck_by o p.root) h))

pub current_stands : (here : Setting) (st : Store) (p : Place) (v : Part) → HasPart here st (place_meant p) (Ok v) → part_value v ≡ (current_in here st (current.At p)).value
current_stands here st p v h = sym (ap or_unit h)

pub current_missing : (here : Setting) (st : Store) (p : Place) (f : report.Stuck) → HasPart here st (place_meant p) (Err f) → UnitV ≡ (current_in here st (current.At p)).value
current_missing here st p f h = sym (ap or_unit h.0)

-- ---- runs

module _ (here : Setting) where
  root_read : (r : act.Root) (v : Value) (st : Store) (t : ℕ) → root_value here st r ≡ Some v → read_root here.world r st t ≡ At (Ended (Gives v)) st t
  root_read (OfName x) v st t h = read_found (found here.world.engine.constants st.scope x) v st t h
  root_read (OfGlobal x) v st t h = ap (λ o. read_global o st t) h
  root_read OfThis v st t h = ap (λ o. read_this o st t) h

  root_unread : (r : act.Root) (st : Store) (t : ℕ) → root_value here st r ≡ None → read_root here.world r st t ≡ At (Halted (IsStuck (root_stuck r))) st t
  root_unread (OfName x) st t h = read_missing (found here.world.engine.constants st.scope x) st t h
  root_unread (OfGlobal x) st t h = ap (λ o. read_global o st t) h
  root_unread OfThis st t h = ap (λ o. read_this o st t) h

  pub read_goes : (s : State) (r : act.Root) (v : Value) → root_value here (store_of s) r ≡ Some v → Goes here (Acting (Read r)) s (given v) s
  read_goes s r v h = record { turns = omega arith; runs = λ d le. root_read r v (store_of s) s.turns h }

  pub read_stops : (s : State) (r : act.Root) → root_value here (store_of s) r ≡ None → Goes here (Acting (Read r)) s (Over (Halted (IsStuck (root_stuck r)))) s
  read_stops s r h = record { turns = omega arith; runs = λ d le. root_unread r (store_of s) s.turns h }

  pub read_given : (s : State) (r : act.Root) (v u : Value) → root_value here (store_of s) r ≡ Some v → v ≡ u → Goes here (Acting (Read r)) s (given u) s
  read_given s r v u h e = subst (λ w. Goes here (Acting (Read r)) s (given w) s) e (read_goes s r v h)

  pub read_stuck : (s : State) (r : act.Root) (f : report.Stuck) → HasRoot here (store_of s) r (Err f) → Stops here (Acting (Read r)) s (Stuck f) s
  read_stuck s r f h = stops_by here _ s s (Stuck f) (Halting (IsStuck (root_stuck r))) (ap (λ g. Some (Halting (IsStuck g))) h.1) (read_stops s r h.0)

  pub fails : (s : State) (f : act.Stuck) → Goes here (Acting (act.Fail f)) s (Over (Halted (IsStuck f))) s
  fails s f = record { turns = omega arith; runs = λ d le. refl }

  module _ (s : State) (p : places.Place) where
    abbrev reads : Value → Act
    reads v = or_no_place (along v p.keys) give

pub ruleset placing = (latest_value, constant_value, latest_below, part_stands, no_root_part, no_part, current_stands, current_missing, at_key_placed, at_key_loose, under_is)
