-- Pointers to functions: what is no name and no pointer, and a pointer's values before others.
use Rattle.std.proofs.Common.{◌≡◌, Bool, List, ◌∷◌, ◌++◌, map, Err, Ok, refl, sym, ap, ◌∙◌}
use Rattle.std.proofs.lemmas.List.{map-append}
use Rattle.rhai_base.specs.declared.dynamic.Dynamic.{Dynamic}
use Rattle.rhai_base.specs.declared.dynamic.Dynamic.TheVariants as kind
use Rattle.rhai_base.specs.declared.fn_ptr.FnPtr.{FnPtr}
use Rattle.rhai_base.specs.Reading.{value_of, value_of-FnPtr, DynamicCase, str_case, fn_ptr_case, dynamic_cases}
use Rattle.rhai_base.specs.Value.{Text, Value, PointerV, items, values}
use Rattle.theory_meaning.specs.Act.{WrongKind, World, Fail}
use Rattle.theory_meaning.specs.Calls as calls
use Rattle.theory_meaning.specs.Calls.{call_named, call_pointer}
use Rattle.run_state.specs.declared.state.Interrupt.TheVariants.{Stuck}
use Rattle.run_state.specs.declared.state.State.{State}
use Rattle.run_host.specs.declared.report.Stuck.TheVariants as why
use Rattle.run_state.specs.Runs.{Setting, Acting, Goes, Stops, Runs}
use Rattle.run_state.proofs.Counted.{items_values}
use Rattle.run_state.proofs.Goes.{gives, goes_as, goes_then, stuck_here}
use Rattle.rhai_base.proofs.OtherKinds.{NoStr, NoPointer}

unnamed_other : {v : Dynamic} {w : Value} → DynamicCase v w → NoStr v → calls.pointer_to w ≡ Fail WrongKind
unnamed_other (str_case t) h = absurd (h t refl)
unnamed_other _ h = refl

curried_other : {v : Dynamic} {w : Value} → DynamicCase v w → NoPointer v → (us : List Value) → calls.curried w us ≡ Fail WrongKind
curried_other (fn_ptr_case p) h us = absurd (h p refl)
curried_other _ h us = refl

called_other : (w : World) (captures : Bool) {v : Dynamic} {u : Value} → DynamicCase v u → NoPointer v → (us : List Value) → call_pointer w captures u us ≡ Fail WrongKind
called_other w captures (fn_ptr_case p) h us = absurd (h p refl)
called_other w captures _ h us = refl

-- a pointer's own values, then these
joined : (p : FnPtr) (vs all : List Dynamic) → all ≡ p.curried ++ vs → items (values (map value_of p.curried)) ++ map value_of vs ≡ map value_of all
joined p vs all e =
    ap (λ us. us ++ map value_of vs) (items_values (map value_of p.curried))
    ∙ sym (map-append value_of p.curried vs)
    ∙ ap (map value_of) (sym e)

module _ (here : Setting) (s : State) where
  pub unnamed_stuck : (v : Dynamic) → NoStr v → Runs here (Acting (calls.pointer_to (value_of v))) s (Err (Stuck why.WrongKind)) s
  unnamed_stuck v h = stuck_here here _ s (unnamed_other (dynamic_cases v) h)

  pub curried_stuck : (v : Dynamic) (us : List Value) → NoPointer v → Runs here (Acting (calls.curried (value_of v) us)) s (Err (Stuck why.WrongKind)) s
  curried_stuck v us h = stuck_here here _ s (curried_other (dynamic_cases v) h us)

  pub curried_runs : (p q : FnPtr) (vs : List Dynamic) → q.name ≡ p.name → q.curried ≡ p.curried ++ vs → Runs here (Acting (calls.curried (value_of (kind.FnPtr p)) (map value_of vs))) s (Ok (kind.FnPtr q)) s
  curried_runs p q vs name all =
      let with_all : PointerV p.name (values (items (values (map value_of p.curried)) ++ map value_of vs)) ≡ value_of (kind.FnPtr q) = (λ i. PointerV (sym name i) (values (joined p vs q.curried all i))) ∙ sym (value_of-FnPtr q) in
      goes_then here (goes_as here _ _ s (ap (λ v. Acting (calls.curried v (map value_of vs))) (value_of-FnPtr p))) (gives here _ _ s with_all)

  module _ (captures : Bool) (f : Text) (args vs : List Dynamic) where
    -- `call` is by its first argument
    pub pointed_first : (v : Dynamic) → args ≡ v ∷ vs → Goes here (Acting (calls.call_word here.world captures f calls.CallFn (map value_of args))) s (Acting (call_pointer here.world captures (value_of v) (map value_of vs))) s
    pointed_first v e = goes_as here _ _ s (ap (λ us. Acting (calls.call_word here.world captures f calls.CallFn (map value_of us))) e)

    pub pointed_stuck : (v : Dynamic) → args ≡ v ∷ vs → NoPointer v → Stops here (Acting (calls.call_word here.world captures f calls.CallFn (map value_of args))) s (Stuck why.WrongKind) s
    pointed_stuck v e h = stuck_here here _ s (ap (λ us. calls.call_word here.world captures f calls.CallFn (map value_of us)) e ∙ called_other here.world captures (dynamic_cases v) h (map value_of vs))

    pub pointed_goes : (p : FnPtr) (name : Text) (all : List Dynamic) → args ≡ kind.FnPtr p ∷ vs → name ≡ p.name → all ≡ p.curried ++ vs → Goes here (Acting (calls.call_word here.world captures f calls.CallFn (map value_of args))) s (Acting (call_named here.world captures name (map value_of all))) s
    pointed_goes p name all e n h =
        goes_as here _ _ s
        (ap (λ us. Acting (calls.call_word here.world captures f calls.CallFn (map value_of us))) e
        ∙ ap (λ v. Acting (call_pointer here.world captures v (map value_of vs))) (value_of-FnPtr p)
        ∙ (λ i. Acting (call_named here.world captures (sym n i) (joined p vs all h i))))
