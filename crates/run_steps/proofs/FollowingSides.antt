-- Chains, read or assigned to, as far as their steps run nothing.
use Rattle.std.proofs.Common.{◌≡◌, ℤ, Bool, true, [], Option, Some, None, Result, Ok, Err, refl, sym, ap, ◌∙◌, subst}
use Rattle.std.specs.Prelude.{IfOk}
use Rattle.base_tokens.specs.declared.token.Token.{Token}
use Rattle.rhai_base.specs.declared.dynamic.Dynamic.{Dynamic}
use Rattle.rhai_base.specs.Builtin.{operator_of}
use Rattle.rhai_base.specs.Operators.{Operator}
use Rattle.rhai_base.specs.Reading.{value_of}
use Rattle.rhai_base.specs.Value.{Text, Value, UnitV, BoolV, IntV, FloatV, CharV, TextV, ArrayV, MapV, PointerV, RangeV, RangeInclusiveV, Fields, Values}
use Rattle.ast_types.specs.declared.expr.Expr.{Expr}
use Rattle.ast_types.specs.Reading.{expr_of, is_negated}
use Rattle.theory_meaning.specs.Act as act
use Rattle.theory_meaning.specs.Act.{Act, Read}
use Rattle.theory_meaning.specs.ActForms.{choose, unit, ◌>>=◌}
use Rattle.theory_meaning.specs.Calls.{assigned}
use Rattle.theory_meaning.specs.Chains as chains
use Rattle.theory_meaning.specs.Chains.{assign_last, set_at}
use Rattle.theory_meaning.specs.Elements.{element, entry}
use Rattle.theory_meaning.specs.Meaning as meaning
use Rattle.theory_meaning.specs.Places as places
use Rattle.theory_meaning.specs.Places.{AtEntry, AtIndex, inside, refreshed, under}
use Rattle.theory_meaning.specs.Tree as tree
use Rattle.rhai_ast.specs.declared.walker.node.ChainType.TheVariants as chain_type
use Rattle.run_host.specs.declared.report.Stuck as report
use Rattle.run_places.specs.Reading.{or_unit}
use Rattle.run_state.specs.Runs.{Setting, Acting, Goes, Leads, Stops, given}
use Rattle.run_state.specs.declared.state.Interrupt.{Interrupt}
use Rattle.run_state.specs.declared.state.Interrupt.TheVariants.{Stuck}
use Rattle.run_state.specs.State.{store_of}
use Rattle.run_state.specs.declared.state.State.{State}
use Rattle.run_state.proofs.Goes.{gives, goes_as, goes_on, goes_then, leads_then, stops_then, value_goes, value_stops}
use Rattle.run_steps.specs.declared.nodes.links.Link.{Link}
use Rattle.run_steps.specs.declared.nodes.links.Rest.{Rest}
use Rattle.run_steps.specs.Direct.{ComesToPlace, Follows, IsIndex, KeySteps, StandsThere, StepsBy, assign_at, left_to_assign, left_to_read}
use Rattle.run_steps.specs.Links.{link_steps, rest_steps}
use Rattle.run_steps.specs.Operators.{StandsFor}
use Rattle.run_steps.specs.Placing.{HasRoot, or_unit_at, place_meant, read_base, root_value, value_at}
use Rattle.run_steps.specs.declared.steps.placing.Place.{Place}
use Rattle.run_steps.proofs.ChainSteps.{first_step, head_is, read_on, step_here}
use Rattle.run_steps.proofs.Following.{element_steps, first_goes as first_read, goes_past, part_at, property_steps, refreshed_goes, root_goes, root_stands}
use Rattle.run_steps.proofs.Placing.{read_stuck}
use Rattle.run_steps.proofs.Targets.{assign_are, assign_on}

-- ---- what has a part at a key

entry_inside : (u : Value) (k : Text) (v : Value) → inside u (AtEntry k) ≡ Some v → (fs : Fields) × ((u ≡ MapV fs) × (v ≡ entry fs k))
entry_inside (MapV fs) k v h = (fs, (refl, (let z : Some (entry fs k) ≡ Some v = h in cc)))
entry_inside UnitV k v h = absurd (cc)
entry_inside (BoolV b) k v h = absurd (cc)
entry_inside (IntV n) k v h = absurd (cc)
entry_inside (FloatV d) k v h = absurd (cc)
entry_inside (CharV d) k v h = absurd (cc)
entry_inside (TextV t) k v h = absurd (cc)
entry_inside (ArrayV vs) k v h = absurd (cc)
entry_inside (PointerV f vs) k v h = absurd (cc)
entry_inside (RangeV a b) k v h = absurd (cc)
entry_inside (RangeInclusiveV a b) k v h = absurd (cc)

element_inside : (u : Value) (n : ℤ) (v : Value) → inside u (AtIndex n) ≡ Some v → (vs : Values) × ((u ≡ ArrayV vs) × (element vs n ≡ Some v))
element_inside (ArrayV vs) n v h = (vs, (refl, h))
element_inside UnitV n v h = absurd (cc)
element_inside (BoolV b) n v h = absurd (cc)
element_inside (IntV m) n v h = absurd (cc)
element_inside (FloatV d) n v h = absurd (cc)
element_inside (CharV d) n v h = absurd (cc)
element_inside (TextV t) n v h = absurd (cc)
element_inside (MapV fs) n v h = absurd (cc)
element_inside (PointerV f vs) n v h = absurd (cc)
element_inside (RangeV a b) n v h = absurd (cc)
element_inside (RangeInclusiveV a b) n v h = absurd (cc)

module _ (here : Setting) (s : State) where
  pub property_key : (e : Expr) (q : tree.PropertyNames) → expr_of e ≡ tree.Property q → KeySteps here s chain_type.Dotting e (AtEntry q.name)
  property_key e q is = λ u v h. let m = entry_inside u q.name v h in property_steps here s e q u v m.0 is m.1.0 m.1.1

  pub index_key : (e : Expr) (n : ℤ) → IsIndex here s e n → KeySteps here s chain_type.Indexing e (AtIndex n)
  index_key e n is = λ u v h. let m = element_inside u n v h in element_steps here s e n u v m.0 is m.1.0 m.1.1

  -- ---- where a step runs something all is left

  abbrev pub at_place : places.Place → Value → places.Current
  at_place p u = record { value = u; place = Some p }

  pub all_left : (rest : Rest) (p : places.Place) (u : Value) → value_at here (store_of s) p ≡ Some u → ComesToPlace here s rest (at_place p u) (Some rest) p
  all_left rest p u h = record { value = u; stands = h; reads = λ loop. goes_on here _ s; assigns = λ loop o v. goes_on here _ s }

  -- ---- one step of what is left

  module _ (rest : Rest) (l : Link) (steps : (loop : Bool) → rest_steps loop rest ≡ link_steps loop rest l) (key : places.PlaceKey) (u w : Value) (q : StepsBy here s rest.chain l.argument.now key u w) (p : places.Place) (there : value_at here (store_of s) p ≡ Some u) where
    abbrev part_here : places.Current
    part_here = at_place (under key p) w

    stands_here : StandsThere here s (at_place p u)
    stands_here = record { place = p; is = refl; stands = there }

    next_stands : value_at here (store_of s) (under key p) ≡ Some w
    next_stands = part_at here s p key u w there q.part

    module _ (loop : Bool) (o : Option Operator) (v : Value) where
      abbrev goes_on_by : Option Rest → chains.Access → places.Current → Act
      goes_on_by r a d = assign_on here loop rest l (steps loop) o v r a d

      to_access : meaning.assign_steps here.world o v (rest_steps loop rest) (at_place p u) ≡ meaning.access here.world (step_here here loop rest l (steps loop)) (λ a. refreshed (at_place p u) (λ d. goes_on_by l.rest a d))
      to_access =
          assign_are here loop rest l (steps loop) o v (at_place p u)
          ∙ ap (λ x. first_step here loop rest l (steps loop) x (at_place p u) (goes_on_by l.rest)) (head_is here loop rest l (steps loop))
          ∙ ap (λ b. choose b unit (meaning.access here.world (step_here here loop rest l (steps loop)) (λ a. refreshed (at_place p u) (λ d. goes_on_by l.rest a d)))) (goes_past (is_negated rest.options) u key w q.part)

      first_goes : (r : Option Rest) → l.rest ≡ r → Goes here (Acting (meaning.assign_steps here.world o v (rest_steps loop rest) (at_place p u))) s (Acting (goes_on_by r q.to (at_place p u))) s
      first_goes r n =
          goes_then here (goes_as here _ _ s (ap Acting to_access))
          (goes_then here (q.reached loop (λ a. refreshed (at_place p u) (λ d. goes_on_by l.rest a d)))
          (goes_then here (refreshed_goes here s (at_place p u) stands_here (λ d. goes_on_by l.rest q.to d)) (goes_as here _ _ s (ap (λ x. Acting (goes_on_by x q.to (at_place p u))) n))))

      last_is : (x : Option Operator) → assign_last here.world x v q.to (at_place p u) ≡ assign_at here.world x v (under key p) w
      last_is None = q.written (at_place p u) refl p v
      last_is (Some op) =
          q.applied (at_place p u) refl (λ d. assigned here.world (Some op) d.value v >>= λ x. set_at x q.to (at_place p u) (Some p))
          ∙ (λ j. assigned here.world (Some op) w v >>= λ x. q.written (at_place p u) refl p x j)

    read_first : (loop : Bool) → Goes here (Acting (meaning.steps here.world (rest_steps loop rest) (at_place p u))) s (Acting (read_on here loop rest l (steps loop) l.rest part_here)) s
    read_first loop = first_read here s rest l steps u w (record { key = key; step = q }) loop (at_place p u) refl stands_here

    -- the last one
    pub comes_to_it : l.rest ≡ None → ComesToPlace here s rest (at_place p u) None (under key p)
    comes_to_it n = record {
      value = w;
      stands = next_stands;
      reads = λ loop. goes_then here (read_first loop) (goes_then here (goes_as here _ _ s (ap (λ x. Acting (read_on here loop rest l (steps loop) x part_here)) n)) (gives here w w s refl));
      assigns = λ loop o v. goes_then here (first_goes loop o v None n) (goes_as here _ _ s (ap Acting (last_is loop o v o)));
    }

    -- one before others
    pub comes_on : (r : Rest) → l.rest ≡ Some r → (left : Option Rest) (p2 : places.Place) → ComesToPlace here s r part_here left p2 → ComesToPlace here s rest (at_place p u) left p2
    comes_on r n left p2 h = record {
      value = h.value;
      stands = h.stands;
      reads = λ loop. goes_then here (read_first loop) (goes_then here (goes_as here _ _ s (ap (λ x. Acting (read_on here loop rest l (steps loop) x part_here)) n)) (h.reads loop));
      assigns = λ loop o v. goes_then here (first_goes loop o v (Some r) n) (goes_then here (goes_as here _ _ s (ap Acting (q.applied (at_place p u) refl (λ x. meaning.assign_steps here.world o v (rest_steps loop r) x)))) (h.assigns loop o v));
    }

    comes_part_on : (r : Rest) → l.rest ≡ Some r → ComesToPlace here s rest (at_place p u) (Some r) (under key p)
    comes_part_on r n = comes_on r n (Some r) (under key p) (all_left r (under key p) w next_stands)

  module _ (rest : Rest) (l : Link) (steps : (loop : Bool) → rest_steps loop rest ≡ link_steps loop rest l) (key : places.PlaceKey) (ks : KeySteps here s rest.chain l.argument.now key) (u w : Value) (has : inside u key ≡ Some w) (p p1 : places.Place) (whole : p1 ≡ under key p) where
    pub follows_to_it : l.rest ≡ None → Follows here s rest p u None p1
    follows_to_it n h = subst (λ x. ComesToPlace here s rest (at_place p u) None x) (sym whole) (comes_to_it rest l steps key u w (ks u w has) p h n)

    pub follows_part : (r : Rest) → l.rest ≡ Some r → Follows here s rest p u (Some r) p1
    follows_part r n h = subst (λ x. ComesToPlace here s rest (at_place p u) (Some r) x) (sym whole) (comes_part_on rest l steps key u w (ks u w has) p h r n)

    follows_on : (r : Rest) → l.rest ≡ Some r → (x : Value) → w ≡ x → (left : Option Rest) (p2 : places.Place) → Follows here s r p1 x left p2 → Follows here s rest p u left p2
    follows_on r n x same left p2 f h =
        let there : value_at here (store_of s) (under key p) ≡ Some w = next_stands rest l steps key u w (ks u w has) p h in
        let from : ComesToPlace here s r (at_place p1 x) left p2 = f (subst (λ q. value_at here (store_of s) q ≡ Some x) (sym whole) (there ∙ ap Some same)) in
        comes_on rest l steps key u w (ks u w has) p h r n left p2 (subst (λ c. ComesToPlace here s r c left p2) (λ j. at_place (whole j) (sym same j)) from)

    -- by where the rest leads, if it does
    pub follows_further : {E : Type 0} (r : Rest) → l.rest ≡ Some r → (x : Value) → w ≡ x → (o : Result (Place × Option Rest) E) → IfOk o (λ q. Follows here s r p1 x q.1 (place_meant q.0)) → IfOk o (λ q. Follows here s rest p u q.1 (place_meant q.0))
    follows_further r n x same (Err e) f = tt
    follows_further r n x same (Ok q) f = follows_on r n x same q.1 (place_meant q.0) f

  -- ---- from a name or `this`

  module _ (rest : Rest) (r : act.Root) (u : Value) (h : root_value here (store_of s) r ≡ Some u) (left : Option Rest) (p q : places.Place) (whole : q ≡ (record { root = r; keys = [] })) (f : Follows here s rest q u left p) where
    come : ComesToPlace here s rest (places.at_root u r) left p
    come = subst (λ x. Follows here s rest x u left p) whole f (root_stands here s r u h)

    value_is : come.value ≡ or_unit_at here (store_of s) p
    value_is = sym (ap or_unit come.stands)

    pub reads_from : (loop : Bool) → Goes here (Acting (read_base r (λ c. meaning.steps here.world (rest_steps loop rest) c))) s (left_to_read here loop left p (or_unit_at here (store_of s) p)) s
    reads_from loop =
        goes_then here (root_goes here s r u (λ c. meaning.steps here.world (rest_steps loop rest) c) h)
        (goes_then here (come.reads loop) (goes_as here _ _ s (ap (λ x. left_to_read here loop left p x) value_is)))

    pub assigns_from : (loop : Bool) (o : Option Operator) (v : Value) → Goes here (Acting (read_base r (λ c. meaning.assign_steps here.world o v (rest_steps loop rest) c))) s (left_to_assign here loop o v left p (or_unit_at here (store_of s) p)) s
    assigns_from loop o v =
        goes_then here (root_goes here s r u (λ c. meaning.assign_steps here.world o v (rest_steps loop rest) c) h)
        (goes_then here (come.assigns loop o v) (goes_as here _ _ s (ap (λ x. left_to_assign here loop o v left p x) value_is)))

  -- nothing stands there
  pub unrooted : (r : act.Root) (f : report.Stuck) (next : places.Current → Act) → HasRoot here (store_of s) r (Err f) → Stops here (Acting (read_base r next)) s (Stuck f) s
  unrooted r f next h = value_stops here (Read r) (λ v. next (places.at_root v r)) s s (Stuck f) (read_stuck here s r f h)

-- ---- `op=` on what stands at a place

module _ (here : Setting) (o : Option Operator) (v : Value) (p : places.Place) (u : Value) (t : Token) (h : StandsFor (Some t) o) (s s1 : State) (old : Dynamic) (same : value_of old ≡ u) where
  abbrev on_place : Act
  on_place = assign_at here.world o v p u

  by_operator : Goes here (Acting on_place) s (Acting (assigned here.world (Some h.0) u v >>= λ x. places.write_place true p x)) s
  by_operator = goes_as here _ _ s (ap (λ q. Acting (assign_at here.world q v p u)) (sym h.2))

  pub place_stops : (x : Interrupt) → ((q : Operator) → operator_of t ≡ Some q → Stops here (Acting (assigned here.world (Some q) (value_of old) v)) s x s1) → Stops here (Acting on_place) s x s1
  place_stops x k = stops_then here s1 x by_operator (value_stops here _ (λ y. places.write_place true p y) s s1 x (subst (λ w. Stops here (Acting (assigned here.world (Some h.0) w v)) s x s1) same (k h.0 h.1)))

  pub place_written : (w : Dynamic) (s2 : State) (r : Result Unit Interrupt) → ((q : Operator) → operator_of t ≡ Some q → Goes here (Acting (assigned here.world (Some q) (value_of old) v)) s (given (value_of w)) s1) → Leads here (Acting (places.write_place true p (value_of w))) s1 r s2 (λ z. given UnitV) → Leads here (Acting on_place) s r s2 (λ z. given UnitV)
  place_written w s2 r k l =
      leads_then here s2 r (λ z. given UnitV)
      (goes_then here by_operator (value_goes here (λ y. places.write_place true p y) (subst (λ x. Goes here (Acting (assigned here.world (Some h.0) x v)) s (given (value_of w)) s1) same (k h.0 h.1)))) l
