-- Calls by names: the language's own words, script functions, the host.
use Rattle.std.proofs.Common.{◌≡◌, Bool, true, false, ◌||◌, List, [], ◌∷◌, map, length, Option, Some, None, Result, Ok, Err, refl, sym, ap, ◌∙◌, subst, cond}
use Rattle.rhai_base.specs.declared.dynamic.Dynamic.{Dynamic}
use Rattle.rhai_base.specs.Reading.{value_of}
use Rattle.rhai_base.specs.Value.{Text, Value}
use Rattle.theory_meaning.specs.Act.{Key, ScriptCall, Act, Invoke}
use Rattle.theory_meaning.specs.ActForms.{ask_host, choose, give}
use Rattle.theory_meaning.specs.Act.{World}
use Rattle.theory_meaning.specs.Calls as calls
use Rattle.theory_meaning.specs.Calls.{call_named, has_key, key, same_key}
use Rattle.run_state.specs.Words.{calls_pointer, goes_to_host, word_or}
use Rattle.theory_meaning.specs.Core.{Function}
use Rattle.theory_meaning.specs.Run.{function_of, key_of}
use Rattle.run_state.specs.declared.state.Interrupt.{Interrupt}
use Rattle.run_state.specs.declared.state.State.{State}
use Rattle.run_state.specs.Evaluating.{RunsInvoke}
use Rattle.run_state.specs.Runs.{Setting, Acting, Goes, Stops, Leads, Runs, given}
use Rattle.run_state.proofs.Goes.{goes_as, goes_then, gives, leads_then, stops_then}

abbrev is_known : Option Function → Bool
is_known (Some f) = true
is_known None = false

known_by : (b c : Bool) (f : Function) (o : Option Function) → c ≡ is_known o → (b || c) ≡ is_known (cond b (Some f) o)
known_by true c f o h = refl
known_by false c f o h = h

-- the keys of a world are those of its functions
known_here : (fs : List Function) (k : Key) → has_key (map key_of fs) k ≡ is_known (function_of fs k)
known_here [] k = refl
known_here (f ∷ fs) k = known_by (same_key (key_of f) k) (has_key (map key_of fs) k) f (function_of fs k) (known_here fs k)

pub function_known : (fs : List Function) (k : Key) (f : Function) → function_of fs k ≡ Some f → has_key (map key_of fs) k ≡ true
function_known fs k f h = known_here fs k ∙ ap is_known h

pub function_unknown : (fs : List Function) (k : Key) → function_of fs k ≡ None → has_key (map key_of fs) k ≡ false
function_unknown fs k h = known_here fs k ∙ ap is_known h

module _ (here : Setting) (keys : here.world.functions ≡ map key_of here.functions) (captures : Bool) (f : Text) (vs : List Value) where
  abbrev named_key : Key
  named_key = key f (length vs) None

  abbrev named_call : ScriptCall
  named_call = record { function = named_key; captures = captures; this = None; arguments = vs }

  call_as : (b : Bool) → has_key here.world.functions named_key ≡ b → (s : State) → Goes here (Acting (call_named here.world captures f vs)) s (Acting (choose b (Invoke named_call (λ v u. give v)) (ask_host f vs))) s
  call_as b h s = goes_as here _ _ s (ap (λ c. Acting (choose c (Invoke named_call (λ v u. give v)) (ask_host f vs))) h)

  -- a script's function
  pub call_invokes : (g : Function) (s s1 : State) (r : Result (Dynamic × Option Dynamic) Interrupt) → function_of here.functions named_key ≡ Some g → RunsInvoke here named_call s r s1 → Leads here (Acting (call_named here.world captures f vs)) s r s1 (λ p. given (value_of p.0))
  call_invokes g s s1 r h q =
      let known : has_key here.world.functions named_key ≡ true = ap (λ ks. has_key ks named_key) keys ∙ function_known here.functions named_key g h in
      leads_then here s1 r (λ (p : Dynamic × Option Dynamic). given (value_of p.0)) (call_as true known s)
      (ended r (q (λ v u. give v))) where
        ended : (o : Result (Dynamic × Option Dynamic) Interrupt) → Leads here (Acting (Invoke named_call (λ v u. give v))) s o s1 (λ p. Acting (give (value_of p.0))) → Leads here (Acting (Invoke named_call (λ v u. give v))) s o s1 (λ p. given (value_of p.0))
        ended (Ok p) k = goes_then here k (gives here _ _ s1 refl)
        ended (Err x) k = k

  -- the host
  pub call_asks : (s s1 : State) (r : Result Dynamic Interrupt) → function_of here.functions named_key ≡ None → Runs here (Acting (ask_host f vs)) s r s1 → Runs here (Acting (call_named here.world captures f vs)) s r s1
  call_asks s s1 r h q =
      let unknown : has_key here.world.functions named_key ≡ false = ap (λ ks. has_key ks named_key) keys ∙ function_unknown here.functions named_key h in
      leads_then here s1 r (λ v. given (value_of v)) (call_as false unknown s) q

-- ---- words

is_to_host : (m : calls.Word) → goes_to_host m ≡ true → m ≡ calls.ToHost
is_to_host calls.ToHost h = refl
is_to_host _ h = absurd (let z : false ≡ true = h in cc)

is_call : (m : calls.Word) → calls_pointer m ≡ true → m ≡ calls.CallFn
is_call calls.CallFn h = refl
is_call _ h = absurd (let z : false ≡ true = h in cc)

word_else : (w : World) (captures : Bool) (f : Text) (m : calls.Word) (vs : List Value) → goes_to_host m ≡ false → calls_pointer m ≡ false → calls.call_word w captures f m vs ≡ word_or w.engine m vs (call_named w captures f vs)
word_else w captures f calls.ToHost vs h k = absurd (let z : true ≡ false = h in cc)
word_else w captures f calls.CallFn vs h k = absurd (let z : true ≡ false = k in cc)
word_else w captures f calls.TypeOf [] h k = refl
word_else w captures f calls.TypeOf (v ∷ []) h k = refl
word_else w captures f calls.TypeOf (v ∷ u ∷ vs) h k = refl
word_else w captures f calls.IsShared [] h k = refl
word_else w captures f calls.IsShared (v ∷ []) h k = refl
word_else w captures f calls.IsShared (v ∷ u ∷ vs) h k = refl
word_else w captures f calls.Fn [] h k = refl
word_else w captures f calls.Fn (v ∷ []) h k = refl
word_else w captures f calls.Fn (v ∷ u ∷ vs) h k = refl
word_else w captures f calls.Curry [] h k = refl
word_else w captures f calls.Curry (v ∷ vs) h k = refl
word_else w captures f calls.NoWord vs h k = refl

module _ (here : Setting) (captures : Bool) (f : Text) (vs : List Value) (m : calls.Word) (meant : m ≡ calls.word f) (s : State) where
  abbrev word_act : Act
  word_act = calls.call_word here.world captures f (calls.word f) vs

  pub word_asks : (s1 : State) (r : Result Dynamic Interrupt) → goes_to_host m ≡ true → Runs here (Acting (ask_host f vs)) s r s1 → Runs here (Acting word_act) s r s1
  word_asks s1 r h q = subst (λ o. Runs here (Acting (calls.call_word here.world captures f o vs)) s r s1) (sym (is_to_host m h) ∙ meant) q

  pub word_points : (s1 : State) (r : Result Dynamic Interrupt) → calls_pointer m ≡ true → Runs here (Acting (calls.call_word here.world captures f calls.CallFn vs)) s r s1 → Runs here (Acting word_act) s r s1
  word_points s1 r h q = subst (λ o. Runs here (Acting (calls.call_word here.world captures f o vs)) s r s1) (sym (is_call m h) ∙ meant) q

  module _ (h : goes_to_host m ≡ false) (k : calls_pointer m ≡ false) where
    abbrev named_act : Act
    named_act = call_named here.world captures f vs

    to_word : Goes here (Acting word_act) s (Acting (word_or here.world.engine m vs named_act)) s
    to_word = goes_as here _ _ s (ap Acting (ap (λ o. calls.call_word here.world captures f o vs) (sym meant) ∙ word_else here.world captures f m vs h k))

    pub word_stops : (x : Interrupt) → Stops here (Acting (word_or here.world.engine m vs named_act)) s x s → Stops here (Acting word_act) s x s
    word_stops x q = stops_then here s x to_word q

    pub word_gives : (v : Dynamic) → Goes here (Acting (word_or here.world.engine m vs named_act)) s (given (value_of v)) s → Goes here (Acting word_act) s (given (value_of v)) s
    word_gives v q = goes_then here to_word q

    pub word_names : (s1 : State) (r : Result Dynamic Interrupt) → Goes here (Acting (word_or here.world.engine m vs named_act)) s (Acting named_act) s → Runs here (Acting named_act) s r s1 → Runs here (Acting word_act) s r s1
    word_names s1 r q l = leads_then here s1 r (λ v. given (value_of v)) (goes_then here to_word q) l
