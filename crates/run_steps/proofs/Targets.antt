-- Assignments to parts of values, step after step.
use Rattle.std.proofs.Common.{◌≡◌, Bool, List, Option, Some, None, Result, Ok, Err, refl, sym, ap, subst, ◌∙◌, arith}
use Rattle.base_tokens.specs.declared.token.Token.{Token}
use Rattle.rhai_base.specs.declared.dynamic.Dynamic.{Dynamic}
use Rattle.rhai_base.specs.Reading.{value_of}
use Rattle.rhai_base.specs.Value.{Text, Value, UnitV}
use Rattle.rhai_base.specs.Builtin.{operator_of}
use Rattle.rhai_base.specs.Operators.{Operator}
use Rattle.ast_types.specs.Reading.{is_negated}
use Rattle.theory_meaning.specs.Act.{Act, Fail, NoPlace}
use Rattle.theory_meaning.specs.ActForms.{give, ◌>>=◌}
use Rattle.theory_meaning.specs.Calls.{assigned}
use Rattle.theory_meaning.specs.Chains as chains
use Rattle.theory_meaning.specs.Chains.{assign_last, set_at}
use Rattle.theory_meaning.specs.Meaning as meaning
use Rattle.theory_meaning.specs.Places as places
use Rattle.run_steps.specs.declared.steps.parts.Access.{Access}
use Rattle.run_steps.specs.declared.nodes.links.Link.{Link}
use Rattle.run_steps.specs.declared.nodes.links.Rest.{Rest}
use Rattle.run_steps.specs.declared.steps.parts.Found.{Found}
use Rattle.run_steps.specs.declared.steps.placing.Current.{Current}
use Rattle.run_state.specs.declared.state.Interrupt.{Interrupt}
use Rattle.run_state.specs.declared.state.Interrupt.TheVariants as stopped
use Rattle.run_host.specs.declared.report.Stuck.TheVariants as why
use Rattle.run_state.specs.declared.state.State.{State}
use Rattle.run_steps.specs.Chaining.{StepsOn, Reaches, access_meant, head_of}
use Rattle.run_steps.specs.Links.{link_steps, rest_steps, steps_on}
use Rattle.run_steps.specs.Operators.{StandsFor}
use Rattle.run_steps.specs.Placing.{current_in}
use Rattle.run_state.specs.Runs.{Setting, Acting, Goes, Leads, Runs, given}
use Rattle.run_state.specs.State.{store_of}
use Rattle.run_steps.specs.Targets.{Changes, Finds, found_in}
use Rattle.run_steps.proofs.Chaining.{KeepsNames, same_current}
use Rattle.run_state.proofs.Goes.{gives, goes_as, goes_then, leads_then, stops_then, value_goes, value_stops}
use Rattle.run_steps.proofs.Quiet.{Quiet, quiet_assigned, quiet_give, quiet_stays, quiet_then}
use Rattle.run_steps.proofs.ChainSteps.{first_step, head_is, step_here}

-- ---- what a step finds

-- a step that keeps the names, whatever comes after it does
abbrev pub QuietStep : Setting → ((places.Current → Act) → Act) → Type 0
QuietStep here step = (next : places.Current → Act) → ((c : places.Current) → Quiet here (next c)) → Quiet here (step next)

module _ (here : Setting) (step : (places.Current → Act) → Act) (q : QuietStep here step) (cur : Current) (s s1 : State) where
  abbrev at_first : places.Current
  at_first = current_in here (store_of s) cur

  module _ (f : Found) (k : Finds here at_first step s (Ok f) s1) where
    finds_stays : KeepsNames (store_of s) (store_of s1)
    finds_stays = quiet_stays here (step (λ d. give d.value)) s s1 _ (q (λ d. give d.value) (λ c. quiet_give here c.value)) (goes_then here (k (λ d. give d.value)) (gives here _ _ s1 refl))

    still : current_in here (store_of s1) cur ≡ at_first
    still = same_current here cur (store_of s) (store_of s1) finds_stays

    pub found_steps : (c : Current) → ((h : Setting) (st : _) → current_in h st c ≡ found_in (current_in h st cur) f) → StepsOn here step s (Ok c) s1
    found_steps c e next = goes_then here (k next) (goes_as here _ _ s1 (ap (λ d. Acting (next d)) (sym (e here (store_of s1) ∙ ap (λ d. found_in d f) still))))

    -- `op=` reads what was found
    module _ (o : Operator) (v : Value) (r : Result Dynamic Interrupt) (s2 : State) where
      change_leads : (w : Result Dynamic Interrupt) → Runs here (Acting (assigned here.world (Some o) (found_in at_first f).value v)) s1 w s2 → Changes here o v step s w s2
      change_leads (Ok x) a next = goes_then here (k (λ d. assigned here.world (Some o) d.value v >>= next)) (value_goes here next a)
      change_leads (Err x) a next = stops_then here s2 x (k (λ d. assigned here.world (Some o) d.value v >>= next)) (value_stops here _ next s1 s2 x a)

      pub changes : (u : Value) → u ≡ (found_in (current_in here (store_of s1) cur) f).value → Runs here (Acting (assigned here.world (Some o) u v)) s1 r s2 → Changes here o v step s r s2
      changes u e a = change_leads r (leads_then here s2 r (λ x. given (value_of x)) (goes_as here _ _ s1 (ap (λ d. Acting (assigned here.world (Some o) d v)) (sym (e ∙ ap (λ d. (found_in d f).value) still)))) a)

  -- the names after `op=` was worked out
  module _ (o : Operator) (v : Value) (x : Dynamic) (k : Changes here o v step s (Ok x) s1) where
    pub change_stays : current_in here (store_of s1) cur ≡ at_first
    change_stays = same_current here cur (store_of s) (store_of s1) (quiet_stays here (step (λ d. assigned here.world (Some o) d.value v >>= give)) s s1 _ (q (λ d. assigned here.world (Some o) d.value v >>= give) (λ d. quiet_then here (assigned here.world (Some o) d.value v) give (quiet_assigned here o d.value v) (quiet_give here))) (goes_then here (k give) (gives here _ _ s1 refl)))

-- a method's value, and what `op=` makes of it
module _ (here : Setting) (step : (places.Current → Act) → Act) (cur : Current) (s s1 : State) where
  module _ (k : StepsOn here step s (Ok cur) s1) (o : Operator) (v : Value) (r : Result Dynamic Interrupt) (s2 : State) where
    read_on : (w : Result Dynamic Interrupt) → Runs here (Acting (assigned here.world (Some o) (current_in here (store_of s1) cur).value v)) s1 w s2 → Changes here o v step s w s2
    read_on (Ok x) a next = goes_then here (k (λ d. assigned here.world (Some o) d.value v >>= next)) (value_goes here next a)
    read_on (Err x) a next = stops_then here s2 x (k (λ d. assigned here.world (Some o) d.value v >>= next)) (value_stops here _ next s1 s2 x a)

    pub read_changes : (u : Value) → u ≡ (current_in here (store_of s1) cur).value → Runs here (Acting (assigned here.world (Some o) u v)) s1 r s2 → Changes here o v step s r s2
    read_changes u e a = read_on r (leads_then here s2 r (λ x. given (value_of x)) (goes_as here _ _ s1 (ap (λ w. Acting (assigned here.world (Some o) w v)) (sym e))) a)

pub read_ends : (here : Setting) (step : (places.Current → Act) → Act) (s s1 : State) (o : Operator) (v : Value) (x : Interrupt) → StepsOn here step s (Err x) s1 → Changes here o v step s (Err x) s1
read_ends here step s s1 o v x k = λ next. k (λ d. assigned here.world (Some o) d.value v >>= next)

pub find_ends : (here : Setting) (c : places.Current) (step : (places.Current → Act) → Act) (s s1 : State) (o : Operator) (v : Value) (x : Interrupt) → Finds here c step s (Err x) s1 → Changes here o v step s (Err x) s1
find_ends here c step s s1 o v x k = λ next. k (λ d. assigned here.world (Some o) d.value v >>= next)

-- at an equal index
pub index_changes : (here : Setting) (c : places.Current) (i j : Value) (s s1 : State) (o : Operator) (v : Value) (r : Result Dynamic Interrupt) → i ≡ j → Changes here o v (λ next. chains.index c c.value i next) s r s1 → Changes here o v (λ next. chains.index c c.value j next) s r s1
index_changes here c i j s s1 o v r e k = subst (λ u. Changes here o v (λ next. chains.index c c.value u next) s r s1) e k

-- ---- the last step

no_method_place : (v : Value) (f : Text) (vs : List Value) (c : places.Current) (p : Option places.Place) → set_at v (chains.OfMethod f vs) c p ≡ Fail NoPlace
no_method_place v f vs c None = refl
no_method_place v f vs c (Some p) = refl

module _ (here : Setting) (o : Option Operator) (v : Value) (a : Access) (cur : Current) (s : State) where
  abbrev last_act : Act
  last_act = assign_last here.world o v (access_meant a) (current_in here (store_of s) cur)

  -- `=`
  pub last_plain : StandsFor None o → (r : Result Unit Interrupt) (s1 : State) → Leads here (Acting (set_at v (access_meant a) (current_in here (store_of s) cur) (current_in here (store_of s) cur).place)) s r s1 (λ z. given UnitV) → Leads here (Acting last_act) s r s1 (λ z. given UnitV)
  last_plain h r s1 q = leads_then here s1 r (λ z. given UnitV) (goes_as here _ _ s (ap (λ p. Acting (assign_last here.world p v (access_meant a) (current_in here (store_of s) cur))) (sym h))) q

  -- `op=`
  module _ (t : Token) (h : StandsFor (Some t) o) where
    abbrev step_last : (places.Current → Act) → Act
    step_last next = chains.applied here.world (access_meant a) (current_in here (store_of s) cur) next

    abbrev set_here : Value → Act
    set_here x = set_at x (access_meant a) (current_in here (store_of s) cur) (current_in here (store_of s) cur).place

    by_operator : Goes here (Acting last_act) s (Acting (step_last (λ d. assigned here.world (Some h.0) d.value v >>= set_here))) s
    by_operator = goes_as here _ _ s (ap (λ p. Acting (assign_last here.world p v (access_meant a) (current_in here (store_of s) cur))) (sym h.2))

    pub last_stops : (x : Interrupt) (s1 : State) → ((p : Operator) → operator_of t ≡ Some p → Changes here p v step_last s (Err x) s1) → Leads {T = Unit} here (Acting last_act) s (Err x) s1 (λ z. given UnitV)
    last_stops x s1 k = stops_then here s1 x by_operator (k h.0 h.1 set_here)

    -- the value of a method has no place
    pub last_nowhere : (f : Text) (vs : List Value) → access_meant a ≡ chains.OfMethod f vs → (w : Dynamic) (s1 : State) → ((p : Operator) → operator_of t ≡ Some p → Changes here p v step_last s (Ok w) s1) → Leads {T = Unit} here (Acting last_act) s (Err (stopped.Stuck why.NoPlace)) s1 (λ z. given UnitV)
    last_nowhere f vs e w s1 k =
        let at = current_in here (store_of s) cur in
        goes_then here by_operator (goes_then here (k h.0 h.1 set_here) (goes_then here (goes_as here _ _ s1 (ap Acting (ap (λ b. set_at (value_of w) b at at.place) e ∙ no_method_place (value_of w) f vs at at.place)))
        (record { turns = omega arith; runs = λ d le. refl })))

    pub last_written : QuietStep here step_last → (w : Dynamic) (s1 s2 : State) (r : Result Unit Interrupt) → ((p : Operator) → operator_of t ≡ Some p → Changes here p v step_last s (Ok w) s1) → Leads here (Acting (set_at (value_of w) (access_meant a) (current_in here (store_of s1) cur) (current_in here (store_of s1) cur).place)) s1 r s2 (λ z. given UnitV) → Leads here (Acting last_act) s r s2 (λ z. given UnitV)
    last_written q w s1 s2 r k l =
        let same = change_stays here step_last q cur s s1 h.0 v w (k h.0 h.1) in
        leads_then here s2 r (λ z. given UnitV) (goes_then here by_operator (goes_then here (k h.0 h.1 set_here) (goes_as here _ _ s1 (ap (λ c. Acting (set_at (value_of w) (access_meant a) c c.place)) (sym same))))) l

-- ---- one step

module _ (here : Setting) (loop : Bool) (rest : Rest) (l : Link) (h : rest_steps loop rest ≡ link_steps loop rest l) (op : Option Operator) (v : Value) where
  -- what an assignment does after a step's argument
  abbrev pub assign_on : Option Rest → chains.Access → places.Current → Act
  assign_on None a d = assign_last here.world op v a d
  assign_on (Some r) a d = chains.applied here.world a d (λ x. meaning.assign_steps here.world op v (rest_steps loop r) x)

  assign_by : (o : Option Rest) (c : places.Current) → meaning.assign_steps here.world op v (steps_on loop (is_negated rest.options) (step_here here loop rest l h) o) c ≡ first_step here loop rest l h (step_here here loop rest l h) c (assign_on o)
  assign_by None c = refl
  assign_by (Some r) c = refl

  pub assign_are : (c : places.Current) → meaning.assign_steps here.world op v (rest_steps loop rest) c ≡ first_step here loop rest l h (head_of (rest_steps loop rest)) c (assign_on l.rest)
  assign_are c = ap (λ sts. meaning.assign_steps here.world op v sts c) h ∙ assign_by l.rest c ∙ ap (λ p. first_step here loop rest l h p c (assign_on l.rest)) (sym (head_is here loop rest l h))

  module _ (c : Current) (s s1 : State) where
    abbrev assign_act : Act
    assign_act = meaning.assign_steps here.world op v (rest_steps loop rest) (current_in here (store_of s) c)

    to_first : Goes here (Acting assign_act) s (Acting (first_step here loop rest l h (head_of (rest_steps loop rest)) (current_in here (store_of s) c) (assign_on l.rest))) s
    to_first = goes_as here _ _ s (ap Acting (assign_are (current_in here (store_of s) c)))

    pub target_stops : (x : Interrupt) → Reaches here loop rest c s (Err x) s1 → Leads {T = Unit} here (Acting assign_act) s (Err x) s1 (λ z. given UnitV)
    target_stops x q = stops_then here s1 x to_first (q (assign_on l.rest))

    pub target_unit : Reaches here loop rest c s (Ok None) s1 → Goes here (Acting assign_act) s (given UnitV) s1
    target_unit q = goes_then here to_first (q (assign_on l.rest))

    module _ (a : Access) (q : Reaches here loop rest c s (Ok (Some a)) s1) (s2 : State) where
      to_access : (o : Option Rest) → l.rest ≡ o → Goes here (Acting assign_act) s (Acting (assign_on o (access_meant a) (current_in here (store_of s1) c))) s1
      to_access o e = goes_then here to_first (goes_then here (q (assign_on l.rest)) (goes_as here _ _ s1 (ap (λ r. Acting (assign_on r (access_meant a) (current_in here (store_of s1) c))) e)))

      pub target_last : (r : Result Unit Interrupt) → l.rest ≡ None → Leads here (Acting (assign_last here.world op v (access_meant a) (current_in here (store_of s1) c))) s1 r s2 (λ z. given UnitV) → Leads here (Acting assign_act) s r s2 (λ z. given UnitV)
      target_last r e n = leads_then here s2 r (λ z. given UnitV) (to_access None e) n

      module _ (o : Rest) (e : l.rest ≡ Some o) where
        pub target_applied_stops : (x : Interrupt) → StepsOn here (λ next. chains.applied here.world (access_meant a) (current_in here (store_of s1) c) next) s1 (Err x) s2 → Leads {T = Unit} here (Acting assign_act) s (Err x) s2 (λ z. given UnitV)
        target_applied_stops x k = stops_then here s2 x (to_access (Some o) e) (k (λ d. meaning.assign_steps here.world op v (rest_steps loop o) d))

        pub target_more : (c2 : Current) (s3 : State) (r : Result Unit Interrupt) → StepsOn here (λ next. chains.applied here.world (access_meant a) (current_in here (store_of s1) c) next) s1 (Ok c2) s2 → Leads here (Acting (meaning.assign_steps here.world op v (rest_steps loop o) (current_in here (store_of s2) c2))) s2 r s3 (λ z. given UnitV) → Leads here (Acting assign_act) s r s3 (λ z. given UnitV)
        target_more c2 s3 r k n = leads_then here s3 r (λ z. given UnitV) (goes_then here (to_access (Some o) e) (k (λ d. meaning.assign_steps here.world op v (rest_steps loop o) d))) n
