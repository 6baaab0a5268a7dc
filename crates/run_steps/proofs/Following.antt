-- Chains whose steps run nothing.
use Rattle.std.proofs.Common.{◌≡◌, ℤ, Bool, true, false, ◌&&◌, [], ◌∷◌, ◌++◌, Option, Some, None, refl, sym, ap, ◌∙◌, subst}
use Rattle.std.specs.Prelude.{IfSome, codes, option_map}
use Rattle.rhai_base.specs.Value.{Value, Values, UnitV, BoolV, IntV, FloatV, CharV, TextV, ArrayV, MapV, PointerV, RangeV, RangeInclusiveV, Fields}
use Rattle.ast_types.specs.declared.expr.Expr.{Expr}
use Rattle.ast_types.specs.Reading.{expr_of, is_negated}
use Rattle.theory_meaning.specs.Act as act
use Rattle.theory_meaning.specs.Act.{Act, Read}
use Rattle.theory_meaning.specs.ActForms.{choose, give, unit}
use Rattle.theory_meaning.specs.Chains as chains
use Rattle.theory_meaning.specs.Chains.{or_throw}
use Rattle.theory_meaning.specs.Desugar.{core_expr, member_of, root_of}
use Rattle.theory_meaning.specs.Elements.{at_index, element, entry}
use Rattle.theory_meaning.specs.Meaning as meaning
use Rattle.theory_meaning.specs.Places as places
use Rattle.theory_meaning.specs.Places.{AtEntry, AtIndex, again_at, along, inside, or_no_place, part, read_place, refreshed, under}
use Rattle.theory_meaning.specs.Shape.{is_unit}
use Rattle.theory_meaning.specs.Tree as tree
use Rattle.run_places.specs.Reading.{or_unit, part_value}
use Rattle.run_places.specs.declared.standing.Part.{Part}
use Rattle.run_steps.specs.Placing.{read_base, root_value, value_at}
use Rattle.run_steps.proofs.Chaining.{property_part, property_set_part}
use Rattle.run_steps.proofs.Placing.{along_snoc, read_goes}
use Rattle.run_steps.specs.Links.{link_steps, rest_steps}
use Rattle.run_steps.specs.declared.nodes.links.Link.{Link}
use Rattle.run_steps.specs.declared.nodes.links.Rest.{Rest}
use Rattle.run_state.specs.Runs.{Setting, Acting, Goes, given}
use Rattle.run_state.specs.State.{store_of}
use Rattle.run_state.specs.declared.state.State.{State}
use Rattle.run_state.proofs.Goes.{gives, goes_as, goes_then, value_goes}
use Rattle.rhai_ast.specs.declared.walker.node.ChainType.TheVariants as chain_type
use Rattle.run_steps.specs.Direct.{Comes, ComesFrom, IsIndex, StandsThere, StepsBy, StepsTo}
use Rattle.run_steps.proofs.ChainSteps.{first_step, head_is, read_on, step_here, steps_are}
use Rattle.run_steps.proofs.Modules.{named_reads}

-- what has parts is no unit, so no `?` ends a chain there
not_unit : (u : Value) (k : places.PlaceKey) (w : Value) → inside u k ≡ Some w → is_unit u ≡ false
not_unit UnitV k w h = absurd (cc)
not_unit (BoolV b) k w h = refl
not_unit (IntV n) k w h = refl
not_unit (FloatV d) k w h = refl
not_unit (CharV d) k w h = refl
not_unit (TextV t) k w h = refl
not_unit (ArrayV vs) k w h = refl
not_unit (MapV fs) k w h = refl
not_unit (PointerV f vs) k w h = refl
not_unit (RangeV a b) k w h = refl
not_unit (RangeInclusiveV a b) k w h = refl

pub goes_past : (b : Bool) (u : Value) (k : places.PlaceKey) (w : Value) → inside u k ≡ Some w → (b && is_unit u) ≡ false
goes_past true u k w h = not_unit u k w h
goes_past false u k w h = refl

module _ (here : Setting) (s : State) where
  -- ---- what stands at a place is read again

  place_read : (p : places.Place) (v : Value) → value_at here (store_of s) p ≡ Some v → Goes here (Acting (read_place p)) s (given v) s
  place_read p v h = by (root_value here (store_of s) p.root) refl h where
    by : (o : Option Value) → root_value here (store_of s) p.root ≡ o → at_index o (λ u. along u p.keys) ≡ Some v → Goes here (Acting (read_place p)) s (given v) s
    by None e k = absurd (let z : None ≡ Some v = k in cc)
    by (Some u) e k =
        goes_then here (value_goes here (λ w. or_no_place (along w p.keys) give) (read_goes here s p.root u e))
        (goes_then here (goes_as here _ _ s (ap (λ o. Acting (or_no_place o give)) k)) (gives here v v s refl))

  again_goes : (c : places.Current) (p : places.Place) → value_at here (store_of s) p ≡ Some c.value → (next : places.Current → Act) → Goes here (Acting (again_at c (Some p) next)) s (Acting (next c)) s
  again_goes c p h next = value_goes here (λ v. next (record c { value = v })) (place_read p c.value h)

  pub refreshed_goes : (c : places.Current) → StandsThere here s c → (next : places.Current → Act) → Goes here (Acting (refreshed c next)) s (Acting (next c)) s
  refreshed_goes c st next = subst (λ o. Goes here (Acting (again_at c o next)) s (Acting (next c)) s) (sym st.is) (again_goes c st.place st.stands next)

  -- a part stands at the place of the part
  pub part_at : (p : places.Place) (k : places.PlaceKey) (u w : Value) → value_at here (store_of s) p ≡ Some u → inside u k ≡ Some w → value_at here (store_of s) (under k p) ≡ Some w
  part_at p k u w st h = by (root_value here (store_of s) p.root) st where
    by : (o : Option Value) → at_index o (λ x. along x p.keys) ≡ Some u → at_index o (λ x. along x (p.keys ++ k ∷ [])) ≡ Some w
    by None e = absurd (let z : None ≡ Some u = e in cc)
    by (Some x) e = along_snoc x p.keys k ∙ ap (λ o. at_index o (λ y. inside y k)) e ∙ h

  part_stands : (c : places.Current) (k : places.PlaceKey) (w : Value) → StandsThere here s c → inside c.value k ≡ Some w → StandsThere here s (part c k w)
  part_stands c k w st h = record { place = under k st.place; is = ap (option_map (under k)) st.is; stands = part_at st.place k c.value w st.stands h }

  -- ---- properties and elements

  pub property_steps : (e : Expr) (q : tree.PropertyNames) (u v : Value) (fs : Fields) → expr_of e ≡ tree.Property q → u ≡ MapV fs → v ≡ entry fs q.name → StepsBy here s chain_type.Dotting e (AtEntry q.name) u v
  property_steps e q u v fs is map_is entry_is =
      let there : inside u (AtEntry q.name) ≡ Some v = ap (λ x. inside x (AtEntry q.name)) map_is ∙ ap Some (sym entry_is) in
      record {
        to = chains.OfProperty q;
        part = there;
        reached = λ loop next. goes_as here _ _ s (ap (λ t. Acting (meaning.access here.world (member_of loop t) next)) is);
        applied = λ c i next.
            let inner : inside c.value (AtEntry q.name) ≡ Some v = ap (λ x. inside x (AtEntry q.name)) i ∙ there in
            property_part q c c.value v next inner ∙ ap (λ o. next (part c (AtEntry q.name) (or_unit o))) inner;
        written = λ c i p x. property_set_part q x p c c.value v (ap (λ y. inside y (AtEntry q.name)) i ∙ there);
      }

  pub element_steps : (e : Expr) (n : ℤ) (u v : Value) (vs : Values) → IsIndex here s e n → u ≡ ArrayV vs → element vs n ≡ Some v → StepsBy here s chain_type.Indexing e (AtIndex n) u v
  element_steps e n u v vs is array_is there = record {
    to = chains.OfIndex (IntV n);
    part = ap (λ x. inside x (AtIndex n)) array_is ∙ there;
    reached = λ loop next. value_goes here (λ x. next (chains.OfIndex x)) (is loop);
    applied = λ c i next. ap (λ x. chains.index c x (IntV n) next) (i ∙ array_is) ∙ ap (λ o. or_throw (codes "array bounds") (option_map (part c (AtIndex n)) o) next) there;
    written = λ c i p x. ap (λ y. chains.set_index x p c y (IntV n)) (i ∙ array_is) ∙ ap (λ o. chains.set_element p n x o) there;
  }

  -- an index that is an integer, or a name of one
  pub integer_index : (e : Expr) (n : ℤ) → expr_of e ≡ tree.IntegerConstant n → IsIndex here s e n
  integer_index e n is = λ loop. goes_then here (goes_as here _ _ s (ap (λ t. Acting (meaning.act here.world (core_expr loop t))) is)) (gives here (IntV n) (IntV n) s refl)

  root_reads : (e : tree.Expr) (r : act.Root) → root_of e ≡ Some r → (loop : Bool) → meaning.act here.world (core_expr loop e) ≡ Read r
  root_reads (tree.Variable ns x) r h loop = named_reads here.world ns x r h
  root_reads tree.ThisPtr r h loop = ap Read (let z : Some act.OfThis ≡ Some r = h in cc)
  root_reads _ r h loop = absurd (let z : None ≡ Some r = h in cc)

  pub named_index_is : (e : Expr) (n : ℤ) (r : act.Root) → root_of (expr_of e) ≡ Some r → root_value here (store_of s) r ≡ Some (IntV n) → IsIndex here s e n
  named_index_is e n r is h = λ loop. goes_then here (goes_as here _ _ s (ap Acting (root_reads (expr_of e) r is loop))) (read_goes here s r (IntV n) h)

  -- what stands at a name or `this` is its value
  pub named_value : (r : act.Root) (v : Value) → value_at here (store_of s) (record { root = r; keys = [] }) ≡ Some v → root_value here (store_of s) r ≡ Some v
  named_value r v h = itself (root_value here (store_of s) r) ∙ h where
    itself : (o : Option Value) → o ≡ at_index o (λ u. along u [])
    itself None = refl
    itself (Some u) = refl

  -- ---- one step of what is left

  module _ (rest : Rest) (l : Link) (steps : (loop : Bool) → rest_steps loop rest ≡ link_steps loop rest l) (u w : Value) (q : StepsTo here s rest.chain l.argument.now u w) where
    module _ (loop : Bool) (c : places.Current) (e : c.value ≡ u) (st : StandsThere here s c) where
      abbrev next_one : places.Current
      next_one = part c q.key w

      abbrev goes_on : Option Rest → places.Current → Act
      goes_on o x = read_on here loop rest l (steps loop) o x

      part_is : inside c.value q.key ≡ Some w
      part_is = ap (λ v. inside v q.key) e ∙ q.step.part

      abbrev done : chains.Access → places.Current → Act
      done a d = chains.applied here.world a d (goes_on l.rest)

      to_access : meaning.steps here.world (rest_steps loop rest) c ≡ meaning.access here.world (step_here here loop rest l (steps loop)) (λ a. refreshed c (λ d. done a d))
      to_access =
          steps_are here loop rest l (steps loop) c
          ∙ ap (λ p. first_step here loop rest l (steps loop) p c done) (head_is here loop rest l (steps loop))
          ∙ ap (λ b. choose b unit (meaning.access here.world (step_here here loop rest l (steps loop)) (λ a. refreshed c (λ d. done a d)))) (goes_past (is_negated rest.options) c.value q.key w part_is)

      pub first_goes : Goes here (Acting (meaning.steps here.world (rest_steps loop rest) c)) s (Acting (goes_on l.rest next_one)) s
      first_goes =
          goes_then here (goes_as here _ _ s (ap Acting to_access))
          (goes_then here (q.step.reached loop (λ a. refreshed c (λ d. done a d)))
          (goes_then here (refreshed_goes c st (λ d. done q.step.to d)) (goes_as here _ _ s (ap Acting (q.step.applied c e (goes_on l.rest))))))

    pub comes_last : l.rest ≡ None → ComesFrom here s rest u w
    comes_last n = λ loop c e st. goes_then here (first_goes loop c e st) (goes_then here (goes_as here _ _ s (ap (λ o. Acting (goes_on loop c e st o (next_one loop c e st))) n)) (gives here w w s refl))

    comes_further : (r : Rest) (v : Value) → l.rest ≡ Some r → ComesFrom here s r w v → ComesFrom here s rest u v
    comes_further r v n h = λ loop c e st. goes_then here (first_goes loop c e st) (goes_then here (goes_as here _ _ s (ap (λ o. Acting (goes_on loop c e st o (next_one loop c e st))) n)) (h loop (next_one loop c e st) refl (part_stands c q.key w st (part_is loop c e st))))

    -- by what the rest comes to, if it does
    pub further_each : (r : Rest) (x : Value) → w ≡ x → l.rest ≡ Some r → (o : Option Part) → IfSome o (λ p. ComesFrom here s r x (part_value p)) → IfSome o (λ p. ComesFrom here s rest u (part_value p))
    further_each r x same n None h = tt
    further_each r x same n (Some p) h = comes_further r (part_value p) n (subst (λ y. ComesFrom here s r y (part_value p)) (sym same) h)

  -- ---- from a place

  pub from_place : (rest : Rest) (u v : Value) (p : places.Place) → value_at here (store_of s) p ≡ Some u → ComesFrom here s rest u v → (loop : Bool) → Comes here s loop rest (record { value = or_unit (value_at here (store_of s) p); place = Some p }) v
  from_place rest u v p h k loop = k loop _ (ap or_unit h) (record { place = p; is = refl; stands = h ∙ ap Some (sym (ap or_unit h)) })

  -- ---- from a name or `this`

  pub root_goes : (r : act.Root) (u : Value) (next : places.Current → Act) → root_value here (store_of s) r ≡ Some u → Goes here (Acting (read_base r next)) s (Acting (next (places.at_root u r))) s
  root_goes r u next h = value_goes here (λ v. next (places.at_root v r)) (read_goes here s r u h)

  pub root_stands : (r : act.Root) (u : Value) → root_value here (store_of s) r ≡ Some u → value_at here (store_of s) (record { root = r; keys = [] }) ≡ Some u
  root_stands r u h = ap (λ o. at_index o (λ v. along v [])) h

  pub from_root : (rest : Rest) (r : act.Root) (u v : Value) → root_value here (store_of s) r ≡ Some u → ComesFrom here s rest u v → (loop : Bool) → Goes here (Acting (read_base r (λ c. meaning.steps here.world (rest_steps loop rest) c))) s (given v) s
  from_root rest r u v h k loop =
      goes_then here (root_goes r u (λ c. meaning.steps here.world (rest_steps loop rest) c) h)
      (k loop (places.at_root u r) refl (record { place = record { root = r; keys = [] }; is = refl; stands = root_stands r u h }))
