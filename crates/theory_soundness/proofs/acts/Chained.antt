-- Calls, steps of chains and assignments, by the values that they may give and the ways in which they may leave.
use Rattle.std.proofs.Common.{Bool, true, false, List, [], ◌∷◌, length, Option, Some, None}
use Rattle.std.specs.Prelude.{ℤ, codes, option_map}
use Rattle.rhai_base.specs.Value.{Text, Value, UnitV, IntV, TextV, ArrayV, MapV, PointerV}
use Rattle.base_tokens.specs.Names.{is_valid_name}
use Rattle.rhai_base.specs.Operators.{Operator, Computed, NoEntry, Is, Overflows, symbol}
use Rattle.theory_meaning.specs.Engine.{built_in, asks_assigning, assigning}
use Rattle.theory_meaning.specs.Act.{World, Env, Exit, Throws, Root, Key, Act}
use Rattle.theory_meaning.specs.ActForms.{give, ask_host}
use Rattle.theory_meaning.specs.Calls.{of_table, operate, assigned, pointer_to, curried, has_key, key, call_named, call_pointer, Word, ToHost, TypeOf, IsShared, Fn, Curry, CallFn, word, call_word, within, called}
use Rattle.theory_meaning.specs.Chains.{Access, OfProperty, OfIndex, OfMethod, or_throw, ask_for, property, index, after_method, method_key, to_method, method, applied, set_by_host, set_element, set_property, set_index, set_placed, set_at, assign_last, assign_root}
use Rattle.theory_meaning.specs.Core.{Callee, OnOperator, Qualified, ByName}
use Rattle.theory_meaning.specs.Elements.{element, character, bit}
use Rattle.theory_meaning.specs.Places.{AtIndex, Place, Current, along, with_along, or_no_place, write_place, part, without_place, again_at, refreshed, put_at, put_back}
use Rattle.theory_meaning.specs.Tree.{PropertyNames}
use Rattle.theory_soundness.proofs.acts.Within.{AnyValue, CallsIn, Within, in_give, in_stop, in_fail, bind_in, choose_in, read_in, write_in, resolve_in, ask_in, answered_in, invoke_in}

module _ (w : World) (env : Env) (L : Exit → Type 0) (th : (v : Value) → L (Throws v)) (calls : CallsIn L env) where
  abbrev Any : Act → Type 0
  Any a = Within w env L AnyValue a

  -- ---- calls

  host_in : (f : Text) (vs : List Value) → Any (ask_host f vs)
  host_in f vs = ask_in w env _ (λ a. answered_in w env th (λ v u. in_give w env v tt) a)

  table_in : (f : Text) (vs : List Value) (c : Computed) → Any (of_table f vs c)
  table_in f vs NoEntry = host_in f vs
  table_in f vs (Is v) = in_give w env v tt
  table_in f vs Overflows = in_stop w env _ (th _)

  operate_in : (op : Operator) (vs : List Value) → Any (operate w op vs)
  operate_in op vs = table_in (symbol op) vs (built_in w.engine op vs)

  assigned_in : (o : Option Operator) (old new : Value) → Any (assigned w o old new)
  assigned_in None old new = in_give w env new tt
  assigned_in (Some op) old new = choose_in w env (asks_assigning w.engine op (old ∷ new ∷ [])) (host_in (assigning op) (old ∷ new ∷ [])) (operate_in op (old ∷ new ∷ []))

  pointer_in : (v : Value) → Any (pointer_to v)
  pointer_in (TextV t) = choose_in w env (is_valid_name t) (in_give w env _ tt) (in_stop w env _ (th _))
  pointer_in _ = in_fail w env _

  curried_in : (v : Value) (vs : List Value) → Any (curried v vs)
  curried_in (PointerV f us) vs = in_give w env _ tt
  curried_in _ vs = in_fail w env _

  named_call_in : (b : Bool) (f : Text) (vs : List Value) → Any (call_named w b f vs)
  named_call_in b f vs = choose_in w env (has_key w.functions (key f (length vs) None)) (invoke_in w env calls _ (λ v u. in_give w env v tt)) (host_in f vs)

  pointer_call_in : (b : Bool) (v : Value) (vs : List Value) → Any (call_pointer w b v vs)
  pointer_call_in b (PointerV f us) vs = named_call_in b f _
  pointer_call_in b _ vs = in_fail w env _

  word_in : (b : Bool) (f : Text) (k : Word) (vs : List Value) → Any (call_word w b f k vs)
  word_in b f ToHost vs = host_in f vs
  word_in b f TypeOf (v ∷ []) = in_give w env _ tt
  word_in b f IsShared (v ∷ []) = in_give w env _ tt
  word_in b f Fn (v ∷ []) = pointer_in v
  word_in b f Curry (p ∷ vs) = curried_in p vs
  word_in b f CallFn (p ∷ vs) = pointer_call_in b p vs
  word_in b f _ vs = named_call_in b f vs

  pub called_in : (c : Callee) (vs : List Value) → Any (called w c vs)
  called_in (OnOperator op) vs = operate_in op vs
  called_in (Qualified m f) vs = resolve_in w env m (λ n. host_in (within n f) vs)
  called_in (ByName f b) vs = word_in b f (word f) vs

  module _ (V : Value → Type 0) (unit : V UnitV) where
    abbrev Fits : Act → Type 0
    Fits a = Within w env L V a

    -- ---- places

    no_place_in : (o : Option Value) {f : Value → Act} → ((v : Value) → Fits (f v)) → Fits (or_no_place o f)
    no_place_in (Some v) h = h v
    no_place_in None h = in_fail w env _

    write_place_in : (must : Bool) (p : Place) (v : Value) → Fits (write_place must p v)
    write_place_in must p v = bind_in w env (read_in w env p.root) (λ u y. no_place_in (with_along u p.keys v) (λ z. write_in w env must p.root z unit))

    put_at_in : (old new : Value) (o : Option Place) → Fits (put_at old new o)
    put_at_in old new None = in_give w env UnitV unit
    put_at_in old new (Some p) = write_place_in _ p new

    put_back_in : (c : Current) (o : Option Value) → Fits (put_back c o)
    put_back_in c None = in_give w env UnitV unit
    put_back_in c (Some v) = put_at_in c.value v c.place

    read_place_in : (o : Option Value) → Any (or_no_place o give)
    read_place_in (Some v) = in_give w env v tt
    read_place_in None = in_fail w env _

    again_in : (c : Current) (o : Option Place) {f : Current → Act} → ((d : Current) → Fits (f d)) → Fits (again_at c o f)
    again_in c None h = h c
    again_in c (Some p) h = bind_in w env (bind_in w env (read_in w env p.root) (λ v y. read_place_in (along v p.keys))) (λ v y. h _)

    pub refreshed_in : (c : Current) {f : Current → Act} → ((d : Current) → Fits (f d)) → Fits (refreshed c f)
    refreshed_in c h = again_in c c.place h

    -- ---- steps

    or_throw_in : (t : Text) (o : Option Current) {f : Current → Act} → ((d : Current) → Fits (f d)) → Fits (or_throw t o f)
    or_throw_in t (Some c) h = h c
    or_throw_in t None h = in_stop w env _ (th _)

    ask_for_in : (m : Text) (v : Value) (vs : List Value) {f : Current → Act} → ((d : Current) → Fits (f d)) → Fits (ask_for m v vs f)
    ask_for_in m v vs h = ask_in w env _ (λ a. answered_in w env th (λ x u. h _) a)

    property_in : (p : PropertyNames) (c : Current) (v : Value) {f : Current → Act} → ((d : Current) → Fits (f d)) → Fits (property p c v f)
    property_in p c (MapV fs) h = h _
    property_in p c v h = ask_for_in p.getter v [] h

    index_in : (c : Current) (v i : Value) {f : Current → Act} → ((d : Current) → Fits (f d)) → Fits (index c v i f)
    index_in c (ArrayV vs) (IntV i) h = or_throw_in _ (option_map (part c (AtIndex i)) (element vs i)) h
    index_in c (TextV t) (IntV i) h = or_throw_in _ (option_map without_place (character t i)) h
    index_in c (IntV n) (IntV i) h = or_throw_in _ (option_map without_place (bit n i)) h
    index_in c (MapV fs) (TextV k) h = h _
    index_in c v i h = ask_for_in (codes "index$get$") v (i ∷ []) h

    after_in : (c : Current) {f : Current → Act} → ((d : Current) → Fits (f d)) → (v : Value) (u : Option Value) → Fits (after_method c f v u)
    after_in c h v u = bind_in w env (put_back_in c u) (λ z y. h _)

    to_method_in : (m : Text) (vs : List Value) (c : Current) (o : Option Key) {f : Current → Act} → ((d : Current) → Fits (f d)) → Fits (to_method m vs c o f)
    to_method_in m vs c (Some k) h = invoke_in w env calls _ (λ v u. after_in c h v u)
    to_method_in m vs c None h = ask_in w env _ (λ a. answered_in w env th (λ v u. after_in c h v u) a)

    method_in : (m : Text) (k : Word) (vs : List Value) (c : Current) {f : Current → Act} → ((d : Current) → Fits (f d)) → Fits (method w m k vs c f)
    method_in m TypeOf [] c h = h _
    method_in m IsShared [] c h = h _
    method_in m Curry vs c h = bind_in w env (curried_in c.value vs) (λ v y. h _)
    method_in m CallFn vs c h = bind_in w env (pointer_call_in false c.value vs) (λ v y. h _)
    method_in m _ vs c h = to_method_in m vs c (method_key w m vs c.value) h

    pub applied_in : (r : Access) (c : Current) {f : Current → Act} → ((d : Current) → Fits (f d)) → Fits (applied w r c f)
    applied_in (OfProperty p) c h = property_in p c c.value h
    applied_in (OfIndex i) c h = index_in c c.value i h
    applied_in (OfMethod m vs) c h = method_in m (word m) vs c h

    -- ---- assignment

    by_host_in : (m : Text) (vs : List Value) (c : Current) → Fits (set_by_host m vs c)
    by_host_in m vs c = ask_in w env _ (λ a. answered_in w env th (λ v u. put_back_in c u) a)

    element_in : (p : Place) (i : ℤ) (v : Value) (o : Option Value) → Fits (set_element p i v o)
    element_in p i v (Some old) = write_place_in true _ v
    element_in p i v None = in_stop w env _ (th _)

    set_property_in : (p : PropertyNames) (v : Value) (at : Place) (c : Current) (u : Value) → Fits (set_property p v at c u)
    set_property_in p v at c (MapV fs) = write_place_in true _ v
    set_property_in p v at c _ = by_host_in p.setter (v ∷ []) c

    set_index_in : (v : Value) (at : Place) (c : Current) (u i : Value) → Fits (set_index v at c u i)
    set_index_in v at c (ArrayV vs) (IntV i) = element_in at i v (element vs i)
    set_index_in v at c (MapV fs) (TextV k) = write_place_in true _ v
    set_index_in v at c _ i = by_host_in (codes "index$set$") (i ∷ v ∷ []) c

    placed_in : (v : Value) (r : Access) (c : Current) (at : Place) → Fits (set_placed v r c at)
    placed_in v (OfProperty p) c at = set_property_in p v at c c.value
    placed_in v (OfIndex i) c at = set_index_in v at c c.value i
    placed_in v (OfMethod f vs) c at = in_fail w env _

    set_in : (v : Value) (r : Access) (c : Current) (o : Option Place) → Fits (set_at v r c o)
    set_in v r c None = in_fail w env _
    set_in v r c (Some p) = placed_in v r c p

    pub assign_last_in : (o : Option Operator) (v : Value) (r : Access) (c : Current) → Fits (assign_last w o v r c)
    assign_last_in None v r c = set_in v r c c.place
    assign_last_in (Some op) v r c = applied_in r c (λ d. bind_in w env (assigned_in (Some op) d.value v) (λ x y. set_in x r c c.place))

    pub assign_root_in : (o : Option Operator) (v : Value) (r : Root) → Fits (assign_root w o v r)
    assign_root_in None v r = write_in w env true r v unit
    assign_root_in (Some op) v r = bind_in w env (read_in w env r) (λ old y. bind_in w env (assigned_in (Some op) old v) (λ x z. write_in w env true r x unit))
