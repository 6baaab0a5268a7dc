-- Methods.
use Rattle.std.proofs.Common.{◌≡◌, ℕ, ◌≤◌, Bool, true, false, cond, List, [], ◌∷◌, map, length, Option, Some, None, Result, Ok, Err, refl, sym, ap, ◌∙◌, subst}
use Rattle.std.specs.Prelude.{option_map}
use Rattle.rhai_base.specs.declared.dynamic.Dynamic.{Dynamic}
use Rattle.rhai_base.specs.Reading.{value_of}
use Rattle.rhai_base.specs.Value.{Text, Value, UnitV, type_name}
use Rattle.ast_types.specs.declared.script_fn.ScriptFuncDef.{ScriptFuncDef}
use Rattle.ast_types.specs.Reading.{stmts_of}
use Rattle.ast_types.specs.Reading as reading
use Rattle.script_tables.specs.FnKey.{definition_key}
use Rattle.script_tables.specs.Table.{find_by}
use Rattle.theory_meaning.specs.Act as act
use Rattle.theory_meaning.specs.Act.{Act, Ended, Gives, Leaves, Halted, At, Key, Store, World, call_then, run}
use Rattle.theory_meaning.specs.ActForms.{ask_method, give, ◌>>=◌}
use Rattle.theory_meaning.specs.Calls as calls
use Rattle.theory_meaning.specs.Calls.{call_pointer, has_key, key}
use Rattle.theory_meaning.specs.Chains.{after_method, method, method_key, to_method, value_alone}
use Rattle.theory_meaning.specs.Places as places
use Rattle.theory_meaning.specs.Places.{put_back, without_place}
use Rattle.theory_meaning.specs.Run.{function_of, key_of}
use Rattle.theory_meaning.specs.Weight.{weight}
use Rattle.run_steps.specs.declared.steps.placing.Current.{Current}
use Rattle.run_steps.specs.declared.steps.placing.Current.TheVariants as current
use Rattle.run_state.specs.declared.state.Interrupt.{Interrupt}
use Rattle.run_state.specs.declared.state.State.{State}
use Rattle.run_steps.specs.Chaining.{CallsMethod, StepsOn, by_key, method_in, or_else}
use Rattle.run_state.specs.Words.{calls_pointer, method_or, value_or}
use Rattle.run_state.specs.Evaluating.{RunsInvoke, bodies_weight}
use Rattle.run_steps.specs.Placing.{current_in}
use Rattle.run_state.specs.Runs.{Setting, env, Acting, Goes, Stops, Leads, given}
use Rattle.run_state.specs.State.{store_of}
use Rattle.run_steps.proofs.Chaining.{KeepsNames, Names, answer_keeps, kept_by, same_current}
use Rattle.run_state.proofs.Goes.{gives, goes_as, goes_then, leads_then, stops_then, value_goes, value_stops}
use Rattle.run_evaluator.proofs.Known.{all_run, found_function, found_key, found_nothing, found_weight, run_of}
use Rattle.run_evaluator.proofs.Words.{function_known, function_unknown}

-- ---- a method's function

module _ (here : Setting) (keys : here.world.functions ≡ map key_of here.functions) (fs : List ScriptFuncDef) (all : here.functions ≡ all_run fs) (f : Text) where
  known_at : (k : Key) (d : ScriptFuncDef) → Some d ≡ find_by definition_key k fs → has_key here.world.functions k ≡ true
  known_at k d h = ap (λ ks. has_key ks k) keys ∙ function_known here.functions k (run_of d) (ap (λ gs. function_of gs k) all ∙ found_function k fs d h)

  unknown_at : (k : Key) → None ≡ find_by definition_key k fs → has_key here.world.functions k ≡ false
  unknown_at k h = ap (λ ks. has_key ks k) keys ∙ function_unknown here.functions k (ap (λ gs. function_of gs k) all ∙ found_nothing k fs h)

  module _ (vs : List Value) (v : Value) where
    abbrev for_type : Key
    for_type = key f (length vs) (Some (type_name v))

    abbrev for_all : Key
    for_all = key f (length vs) None

    method_key_by : (b c : Bool) → has_key here.world.functions for_type ≡ b → has_key here.world.functions for_all ≡ c → method_key here.world f vs v ≡ cond b (Some for_type) (cond c (Some for_all) None)
    method_key_by b c h k = (λ i. cond (h i) (Some for_type) (cond (k i) (Some for_all) None))

    -- what is known of a function that was found
    abbrev IsFound : ScriptFuncDef → Key → Type 0
    IsFound d k = (definition_key d ≡ k) × (function_of here.functions k ≡ Some (run_of d)) × (weight (stmts_of d.body.block) ≤ bodies_weight (map reading.function_of fs))

    found_at : (k : Key) (d : ScriptFuncDef) → Some d ≡ find_by definition_key k fs → IsFound d k
    found_at k d h = (found_key k fs d h, ap (λ gs. function_of gs k) all ∙ found_function k fs d h, found_weight k fs d h)

    abbrev IsMethod : ScriptFuncDef → Type 0
    IsMethod d = (k : Key) × (method_key here.world f vs v ≡ Some k) × IsFound d k

    first_or : (o p : Option ScriptFuncDef) (d : ScriptFuncDef) → o ≡ find_by definition_key for_type fs → p ≡ find_by definition_key for_all fs → Some d ≡ or_else o p → IsMethod d
    first_or (Some e) p d h k x =
        let same : d ≡ e = cc in
        (for_type, ap (λ b. cond b (Some for_type) (cond (has_key here.world.functions for_all) (Some for_all) None)) (known_at for_type e h), subst (λ g. IsFound g for_type) (sym same) (found_at for_type e h))
    first_or None (Some e) d h k x =
        let same : d ≡ e = cc in
        (for_all, method_key_by false true (unknown_at for_type h) (known_at for_all e k), subst (λ g. IsFound g for_all) (sym same) (found_at for_all e k))
    first_or None None d h k x = absurd (let z : Some d ≡ None = x in cc)

    neither : (o p : Option ScriptFuncDef) → o ≡ find_by definition_key for_type fs → p ≡ find_by definition_key for_all fs → None ≡ or_else o p → method_key here.world f vs v ≡ None
    neither (Some e) p h k x = absurd (let z : None ≡ Some e = x in cc)
    neither None (Some e) h k x = absurd (let z : None ≡ Some e = x in cc)
    neither None None h k x = method_key_by false false (unknown_at for_type h) (unknown_at for_all k)

    module _ (n : ℕ) (t : Text) (c : n ≡ length vs) (e : t ≡ type_name v) where
      in_place : method_in fs f n t ≡ method_in fs f (length vs) (type_name v)
      in_place = λ i. method_in fs f (c i) (e i)

      pub method_found : (d : ScriptFuncDef) → Some d ≡ method_in fs f n t → IsMethod d
      method_found d h = first_or _ _ d refl refl (h ∙ in_place)

      pub method_missing : None ≡ method_in fs f n t → method_key here.world f vs v ≡ None
      method_missing h = neither _ _ refl refl (h ∙ in_place)

-- ---- its call

module _ (here : Setting) (f : Text) (v : Value) (vs : List Value) (s s1 : State) where
  abbrev call_by : Option Key → (Value → Option Value → Act) → Act
  call_by o next = by_key f vs v o next

  pub method_invokes : (k : Key) (r : Result (Dynamic × Option Dynamic) Interrupt) → method_key here.world f vs v ≡ Some k → RunsInvoke here (record { function = k; captures = false; this = Some v; arguments = vs }) s r s1 → CallsMethod here f v vs s r s1
  method_invokes k r h q = subst (λ o. (next : Value → Option Value → Act) → Leads here (Acting (call_by o next)) s r s1 (λ (p : Dynamic × Option Dynamic). Acting (next (value_of p.0) (option_map value_of p.1)))) (sym h) q

  pub method_asks : (r : Result (Dynamic × Option Dynamic) Interrupt) → method_key here.world f vs v ≡ None → ((next : Value → Option Value → Act) → Leads here (Acting (ask_method f v vs next)) s r s1 (λ (p : Dynamic × Option Dynamic). Acting (next (value_of p.0) (option_map value_of p.1)))) → CallsMethod here f v vs s r s1
  method_asks r h q = subst (λ o. (next : Value → Option Value → Act) → Leads here (Acting (call_by o next)) s r s1 (λ (p : Dynamic × Option Dynamic). Acting (next (value_of p.0) (option_map value_of p.1)))) (sym h) q

  -- it leaves the names
  call_keeps : (old : Store) (r : act.Result) (d : ℕ) → Names (call_then old r (λ w u st t. run here.world (env here d) (give w) st t)) old
  call_keeps old (At (Ended (Gives w)) st t) d = (refl, refl, refl)
  call_keeps old (At (Ended (Leaves x)) st t) d = (refl, refl, refl)
  call_keeps old (At (Halted x) st t) d = (refl, refl, refl)

  by_keeps : (o : Option Key) (d : ℕ) → Names (run here.world (env here d) (call_by o (λ w u. give w)) (store_of s) s.turns) (store_of s)
  by_keeps (Some k) d = call_keeps (store_of s) ((env here d).invoke (record { function = k; captures = false; this = Some v; arguments = vs }) (store_of s) s.turns) d
  by_keeps None d = answer_keeps here d s.turns (here.world.host.answer (store_of s).calls (record { name = f; receiver = Some v; arguments = vs })) (store_of s) _ (refl, refl, refl)

  names_stay : (p : Dynamic × Option Dynamic) → CallsMethod here f v vs s (Ok p) s1 → KeepsNames (store_of s) (store_of s1)
  names_stay p q = kept_by here _ s s1 _ (by_keeps (method_key here.world f vs v)) (goes_then here (q (λ w u. give w)) (gives here _ _ s1 refl))

-- a call by what is found among the script's functions
module _ (here : Setting) (keys : here.world.functions ≡ map key_of here.functions) (fs : List ScriptFuncDef) (all : here.functions ≡ all_run fs) (f : Text) (vs : List Value) (v : Value) (n : ℕ) (t : Text) (c : n ≡ length vs) (e : t ≡ type_name v) where
  pub found_fits : (d : ScriptFuncDef) → Some d ≡ method_in fs f n t → weight (stmts_of d.body.block) ≤ bodies_weight (map reading.function_of fs)
  found_fits d h = (method_found here keys fs all f vs v n t c e d h).2.2

  module _ (s s1 : State) (r : Result (Dynamic × Option Dynamic) Interrupt) where
    pub found_runs : (d : ScriptFuncDef) → Some d ≡ method_in fs f n t → (function_of here.functions (definition_key d) ≡ Some (run_of d) → RunsInvoke here (record { function = definition_key d; captures = false; this = Some v; arguments = vs }) s r s1) → CallsMethod here f v vs s r s1
    found_runs d h q =
        let m = method_found here keys fs all f vs v n t c e d h in
        method_invokes here f v vs s s1 m.0 r m.1 (subst (λ k. RunsInvoke here (record { function = k; captures = false; this = Some v; arguments = vs }) s r s1) m.2.0 (q (ap (function_of here.functions) m.2.0 ∙ m.2.1)))

    pub missing_asks : None ≡ method_in fs f n t → ((next : Value → Option Value → Act) → Leads here (Acting (ask_method f v vs next)) s r s1 (λ (p : Dynamic × Option Dynamic). Acting (next (value_of p.0) (option_map value_of p.1)))) → CallsMethod here f v vs s r s1
    missing_asks h q = method_asks here f v vs s s1 r (method_missing here keys fs all f vs v n t c e h) q

module _ (here : Setting) (f : Text) (vs : List Value) (cur : Current) (s : State) (receiver : Dynamic) (is : value_of receiver ≡ (current_in here (store_of s) cur).value) where
  abbrev at : places.Current
  at = current_in here (store_of s) cur

  abbrev to_it : (places.Current → Act) → Act
  to_it next = to_method f vs at (method_key here.world f vs at.value) next

  as_call : (o : Option Key) (next : places.Current → Act) → to_method f vs at o next ≡ by_key f vs at.value o (λ v u. after_method at next v u)
  as_call (Some k) next = refl
  as_call None next = refl

  to_call : (next : places.Current → Act) → Goes here (Acting (to_it next)) s (Acting (by_key f vs (value_of receiver) (method_key here.world f vs (value_of receiver)) (λ v u. after_method at next v u))) s
  to_call next = goes_as here _ _ s (ap Acting (as_call (method_key here.world f vs at.value) next ∙ ap (λ v. by_key f vs v (method_key here.world f vs v) (λ w u. after_method at next w u)) (sym is)))

  pub call_stops : (s1 : State) (x : Interrupt) → CallsMethod here f (value_of receiver) vs s (Err x) s1 → StepsOn here to_it s (Err x) s1
  call_stops s1 x q = λ next. stops_then here s1 x (to_call next) (q (λ v u. after_method at next v u))

  module _ (s1 s2 : State) (p : Dynamic × Option Dynamic) (q : CallsMethod here f (value_of receiver) vs s (Ok p) s1) where
    still : at ≡ current_in here (store_of s1) cur
    still = sym (same_current here cur (store_of s) (store_of s1) (names_stay here f (value_of receiver) vs s s1 p q))

    to_back : (next : places.Current → Act) → Goes here (Acting (to_it next)) s (Acting (put_back (current_in here (store_of s1) cur) (option_map value_of p.1) >>= λ z. next (without_place (value_of p.0)))) s1
    to_back next = goes_then here (to_call next) (goes_then here (q (λ v u. after_method at next v u)) (goes_as here _ _ s1 (ap (λ c. Acting (put_back c (option_map value_of p.1) >>= λ z. next (without_place (value_of p.0)))) still)))

    pub back_stops : (x : Interrupt) → Stops here (Acting (put_back (current_in here (store_of s1) cur) (option_map value_of p.1))) s1 x s2 → StepsOn here to_it s (Err x) s2
    back_stops x k = λ next. stops_then here s2 x (to_back next) (value_stops here _ (λ z. next (without_place (value_of p.0))) s1 s2 x k)

    pub back_runs : Goes here (Acting (put_back (current_in here (store_of s1) cur) (option_map value_of p.1))) s1 (given UnitV) s2 → StepsOn here to_it s (Ok (current.Loose p.0)) s2
    back_runs k = λ next. goes_then here (to_back next) (value_goes here (λ z. next (without_place (value_of p.0))) k)

-- ---- words

word_as : (w : World) (f : Text) (m : calls.Word) (vs : List Value) (c : places.Current) (next : places.Current → Act) → calls_pointer m ≡ false → method w f m vs c next ≡ method_or w.engine m c.value vs next (to_method f vs c (method_key w f vs c.value) next)
word_as w f calls.CallFn vs c next h = absurd (let z : true ≡ false = h in cc)
word_as w f calls.TypeOf [] c next h = refl
word_as w f calls.TypeOf (v ∷ vs) c next h = refl
word_as w f calls.IsShared [] c next h = refl
word_as w f calls.IsShared (v ∷ vs) c next h = refl
word_as w f calls.Curry vs c next h = refl
word_as w f calls.ToHost vs c next h = refl
word_as w f calls.Fn vs c next h = refl
word_as w f calls.NoWord vs c next h = refl

is_call : (m : calls.Word) → calls_pointer m ≡ true → m ≡ calls.CallFn
is_call calls.CallFn h = refl
is_call _ h = absurd (let z : false ≡ true = h in cc)

module _ (here : Setting) (f : Text) (vs : List Value) (m : calls.Word) (meant : m ≡ calls.word f) (cur : Current) (s : State) (receiver : Dynamic) (is : value_of receiver ≡ (current_in here (store_of s) cur).value) where
  abbrev met : places.Current
  met = current_in here (store_of s) cur

  abbrev by_method : (places.Current → Act) → Act
  by_method next = method here.world f (calls.word f) vs met next

  module _ (s1 : State) (h : calls_pointer m ≡ true) where
    to_pointer : (next : places.Current → Act) → Goes here (Acting (by_method next)) s (Acting (value_alone (call_pointer here.world false (value_of receiver) vs) next)) s
    to_pointer next = goes_as here _ _ s (ap Acting (ap (λ o. method here.world f o vs met next) (sym meant ∙ is_call m h) ∙ ap (λ v. value_alone (call_pointer here.world false v vs) next) (sym is)))

    pub pointer_runs : (v : Dynamic) → Goes here (Acting (call_pointer here.world false (value_of receiver) vs)) s (given (value_of v)) s1 → StepsOn here by_method s (Ok (current.Loose v)) s1
    pointer_runs v q = λ next. goes_then here (to_pointer next) (value_goes here (λ u. next (without_place u)) q)

  module _ (h : calls_pointer m ≡ false) where
    abbrev other : (places.Current → Act) → Act
    other next = to_method f vs met (method_key here.world f vs met.value) next

    -- what the word answers at once
    abbrev Answers : Result (Option Dynamic) Interrupt → Type 0
    Answers r = (t : State) (next : places.Current → Act) (o : Act) → Leads here (Acting (method_or here.world.engine m (value_of receiver) vs next o)) t r t (λ u. value_or next o u)

    to_word : (next : places.Current → Act) → Goes here (Acting (by_method next)) s (Acting (method_or here.world.engine m (value_of receiver) vs next (other next))) s
    to_word next = goes_as here _ _ s (ap Acting (ap (λ o. method here.world f o vs met next) (sym meant) ∙ word_as here.world f m vs met next h ∙ ap (λ v. method_or here.world.engine m v vs next (other next)) (sym is)))

    pub word_stopped : (x : Interrupt) → Answers (Err x) → StepsOn here by_method s (Err x) s
    word_stopped x q = λ next. stops_then here s x (to_word next) (q s next (other next))

    pub word_given : (v : Dynamic) → Answers (Ok (Some v)) → StepsOn here by_method s (Ok (current.Loose v)) s
    word_given v q = λ next. goes_then here (to_word next) (q s next (other next))

    pub word_passed : (s1 : State) (r : Result Current Interrupt) → Answers (Ok None) → StepsOn here other s r s1 → StepsOn here by_method s r s1
    word_passed s1 r q k = λ next. leads_then here s1 r (λ c. Acting (next (current_in here (store_of s1) c))) (goes_then here (to_word next) (q s next (other next))) (k next)
