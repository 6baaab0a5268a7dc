-- Chains, step after step.
use Rattle.std.proofs.Common.{◌≡◌, Bool, true, false, cond, ◌&&◌, List, map, length, Option, Some, None, Result, Ok, Err, refl, sym, ap, ◌∙◌, subst, arith}
use Rattle.rhai_base.specs.declared.dynamic.Dynamic.{Dynamic}
use Rattle.rhai_base.specs.declared.dynamic.Dynamic.TheVariants as value
use Rattle.rhai_base.specs.Reading.{value_of, value_of-Unit}
use Rattle.rhai_base.specs.Value.{Value}
use Rattle.base_tokens.specs.declared.position.Position.{Position}
use Rattle.ast_types.specs.declared.expr.Expr.{Expr}
use Rattle.ast_types.specs.declared.expr.Expr.TheVariants as kind
use Rattle.ast_types.specs.declared.expr.FnCallExpr.{FnCallExpr}
use Rattle.ast_types.specs.Reading.{callee_of, expr_of, expr_of-MethodCall, exprs_of, is_negated}
use Rattle.ast_types.proofs.Cases.{ExprCase, expr_cases, dynamic_constant_case, bool_constant_case, integer_constant_case, float_constant_case, char_constant_case, string_constant_case, interpolated_string_case, array_case, map_case, unit_case, variable_case, this_ptr_case, property_case, method_call_case, braces_case, call_case, dot_case, index_case, and_case, or_case, coalesce_case}
use Rattle.theory_meaning.specs.Act as act
use Rattle.theory_meaning.specs.Act.{Act, Ended, Gives, At}
use Rattle.theory_meaning.specs.ActForms.{choose, give, unit}
use Rattle.theory_meaning.specs.Chains as chains
use Rattle.theory_meaning.specs.Chains.{unless_unit}
use Rattle.theory_meaning.specs.Core as core
use Rattle.theory_meaning.specs.Desugar as desugar
use Rattle.theory_meaning.specs.Desugar.{based, core_expr, core_exprs, member_of, root_of}
use Rattle.theory_meaning.specs.Meaning as meaning
use Rattle.theory_meaning.specs.Meaning.{access, at_base}
use Rattle.theory_meaning.specs.Places as places
use Rattle.theory_meaning.specs.Places.{refreshed}
use Rattle.theory_meaning.specs.Shape.{is_callable, is_chain, is_unit}
use Rattle.theory_meaning.specs.Tree as tree
use Rattle.run_places.specs.Reading.{or_unit}
use Rattle.run_steps.specs.declared.steps.parts.Access.{Access}
use Rattle.run_steps.specs.declared.nodes.links.Link.{Link}
use Rattle.run_steps.specs.declared.nodes.links.Rest.{Rest}
use Rattle.run_steps.specs.declared.steps.placing.Current.{Current}
use Rattle.run_state.specs.declared.state.Interrupt.{Interrupt}
use Rattle.run_state.specs.declared.state.Interrupt.TheVariants.{Stuck}
use Rattle.run_state.specs.declared.state.State.{State}
use Rattle.run_host.specs.declared.report.Stuck.TheVariants as why
use Rattle.run_steps.specs.Chaining.{StepsOn, HasAccess, Reaches, access_meant, chain_core, head_of, method_core}
use Rattle.run_steps.specs.Links.{link_steps, rest_steps, step_core, steps_on}
use Rattle.run_state.specs.Evaluating.{RunsCore, RunsExpr, RunsExprs}
use Rattle.run_steps.specs.Placing.{current_in, made, place_in, read_base}
use Rattle.run_state.specs.Runs.{Setting, Acting, Goes, Leads, Runs, given}
use Rattle.run_state.specs.State.{store_of}
use Rattle.run_steps.proofs.Callees.{count_exprs_of}
use Rattle.run_state.proofs.Goes.{goes_as, goes_then, leads_then, stops_then, value_goes, value_stops}
use Rattle.rhai_ast.specs.Nodes.{is_dot}
use Rattle.ast_types.proofs.OtherKinds.{NoProperty, NoMethod}

-- ---- chains by their outermost node

module _ (here : Setting) (loop dot : Bool) (k : tree.ChainFlags) (l r : tree.Expr) where
  abbrev base_here : core.Base
  base_here = based (root_of l) (core_expr loop l)

  abbrev steps_here : core.Steps
  steps_here = desugar.steps_of loop dot k (step_core loop dot r) r

  chain_is : (b : Bool) → is_chain dot k r ≡ b → chain_core loop dot k l r ≡ cond b (core.Chain base_here steps_here) core.Ill
  chain_is b h = ap (λ c. cond c (core.Chain base_here steps_here) core.Ill) h

  module _ (s s1 : State) (h : is_chain dot k r ≡ true) where
    abbrev on_base : places.Current → Act
    on_base c = meaning.steps here.world steps_here c

    chain_by : (x : Option act.Root) (o : Result Dynamic Interrupt) (s2 : State) → x ≡ root_of l → Runs here (Acting (at_base here.world (based x (core_expr loop l)) on_base)) s o s2 → RunsCore here (chain_core loop dot k l r) s o s2
    chain_by x o s2 e q = subst (λ c. RunsCore here c s o s2) (sym (chain_is true h)) (subst (λ y. Runs here (Acting (at_base here.world (based y (core_expr loop l)) on_base)) s o s2) e q)

    -- from a name or `this`
    pub chain_from_root : (x : act.Root) (o : Result Dynamic Interrupt) → Some x ≡ root_of l → Runs here (Acting (read_base x on_base)) s o s1 → RunsCore here (chain_core loop dot k l r) s o s1
    chain_from_root x o e q = chain_by (Some x) o s1 e q

    -- from a value
    pub chain_stops : (x : Interrupt) → None ≡ root_of l → RunsExpr here loop l s (Err x) s1 → RunsCore here (chain_core loop dot k l r) s (Err x) s1
    chain_stops x e q = chain_by None (Err x) s1 e (value_stops here _ (λ v. on_base (places.without_place v)) s s1 x q)

    pub chain_from_value : (v : Dynamic) (s2 : State) (o : Result Dynamic Interrupt) → None ≡ root_of l → RunsExpr here loop l s (Ok v) s1 → Runs here (Acting (on_base (places.without_place (value_of v)))) s1 o s2 → RunsCore here (chain_core loop dot k l r) s o s2
    chain_from_value v s2 o e q n = chain_by None o s2 e (leads_then here s2 o (λ u. given (value_of u)) (value_goes here (λ u. on_base (places.without_place u)) q) n)

-- ---- one step

module _ (here : Setting) (loop : Bool) (rest : Rest) (l : Link) (h : rest_steps loop rest ≡ link_steps loop rest l) where
  abbrev pub step_here : core.Step
  step_here = step_core loop (is_dot rest.chain) (expr_of l.argument.now)

  head_by : (o : Option Rest) → head_of (steps_on loop (is_negated rest.options) step_here o) ≡ step_here
  head_by None = refl
  head_by (Some r) = refl

  pub head_is : head_of (rest_steps loop rest) ≡ step_here
  head_is = ap head_of h ∙ head_by l.rest

  -- what a chain does before it goes on
  abbrev pub first_step : core.Step → places.Current → (chains.Access → places.Current → Act) → Act
  first_step p c next = unless_unit (is_negated rest.options) c (access here.world p (λ a. refreshed c (λ d. next a d)))

  -- what it does then
  abbrev pub read_on : Option Rest → places.Current → Act
  read_on None x = give x.value
  read_on (Some r) x = meaning.steps here.world (rest_steps loop r) x

  steps_by : (o : Option Rest) (c : places.Current) → meaning.steps here.world (steps_on loop (is_negated rest.options) step_here o) c ≡ first_step step_here c (λ a d. chains.applied here.world a d (read_on o))
  steps_by None c = refl
  steps_by (Some r) c = refl

  pub steps_are : (c : places.Current) → meaning.steps here.world (rest_steps loop rest) c ≡ first_step (head_of (rest_steps loop rest)) c (λ a d. chains.applied here.world a d (read_on l.rest))
  steps_are c = ap (λ sts. meaning.steps here.world sts c) h ∙ steps_by l.rest c ∙ ap (λ p. first_step p c (λ a d. chains.applied here.world a d (read_on l.rest))) (sym head_is)

  module _ (c : Current) (s s1 : State) where
    abbrev steps_act : Act
    steps_act = meaning.steps here.world (rest_steps loop rest) (current_in here (store_of s) c)

    to_first : Goes here (Acting steps_act) s (Acting (first_step (head_of (rest_steps loop rest)) (current_in here (store_of s) c) (λ a d. chains.applied here.world a d (read_on l.rest)))) s
    to_first = goes_as here _ _ s (ap Acting (steps_are (current_in here (store_of s) c)))

    pub steps_stop : (x : Interrupt) → Reaches here loop rest c s (Err x) s1 → Runs here (Acting steps_act) s (Err x) s1
    steps_stop x q = stops_then here s1 x to_first (q (λ a d. chains.applied here.world a d (read_on l.rest)))

    pub steps_unit : Reaches here loop rest c s (Ok None) s1 → Runs here (Acting steps_act) s (Ok value.Unit) s1
    steps_unit q = goes_then here to_first (goes_then here (q (λ a d. chains.applied here.world a d (read_on l.rest))) (record { turns = omega arith; runs = λ d le. ap (λ u. At (Ended (Gives u)) (store_of s1) s1.turns) (sym value_of-Unit) }))

    module _ (a : Access) (q : Reaches here loop rest c s (Ok (Some a)) s1) where
      to_applied : Goes here (Acting steps_act) s (Acting (chains.applied here.world (access_meant a) (current_in here (store_of s1) c) (read_on l.rest))) s1
      to_applied = goes_then here to_first (q (λ b d. chains.applied here.world b d (read_on l.rest)))

      module _ (s2 : State) where
        pub applied_stops : (x : Interrupt) → StepsOn here (λ next. chains.applied here.world (access_meant a) (current_in here (store_of s1) c) next) s1 (Err x) s2 → Runs here (Acting steps_act) s (Err x) s2
        applied_stops x k = stops_then here s2 x to_applied (k (read_on l.rest))

        module _ (c2 : Current) (k : StepsOn here (λ next. chains.applied here.world (access_meant a) (current_in here (store_of s1) c) next) s1 (Ok c2) s2) where
          to_next : (o : Option Rest) → l.rest ≡ o → Goes here (Acting steps_act) s (Acting (read_on o (current_in here (store_of s2) c2))) s2
          to_next o e = goes_then here to_applied (goes_then here (k (read_on l.rest)) (goes_as here _ _ s2 (ap (λ r. Acting (read_on r (current_in here (store_of s2) c2))) e)))

          pub steps_more : (r : Rest) (s3 : State) (o : Result Dynamic Interrupt) → l.rest ≡ Some r → Runs here (Acting (meaning.steps here.world (rest_steps loop r) (current_in here (store_of s2) c2))) s2 o s3 → Runs here (Acting steps_act) s o s3
          steps_more r s3 o e n = leads_then here s3 o (λ v. given (value_of v)) (to_next (Some r) e) n

          pub steps_end : (v : Dynamic) → l.rest ≡ None → value_of v ≡ (current_in here (store_of s2) c2).value → Runs here (Acting steps_act) s (Ok v) s2
          steps_end v e w = goes_then here (to_next None e) (record { turns = omega arith; runs = λ d le. ap (λ u. At (Ended (Gives u)) (store_of s2) s2.turns) (sym w) })

  -- ---- reaching it

  module _ (c : Current) (s : State) where
    abbrev old : places.Current
    old = current_in here (store_of s) c

    module _ (e : (is_negated rest.options && is_unit old.value) ≡ false) where
      to_access : (next : chains.Access → places.Current → Act) → Goes here (Acting (first_step (head_of (rest_steps loop rest)) old next)) s (Acting (access here.world (step_core loop (is_dot rest.chain) (expr_of l.argument.now)) (λ a. refreshed old (λ d. next a d)))) s
      to_access next =
          goes_then here (goes_as here _ _ s (ap (λ o. Acting (choose o unit (access here.world (head_of (rest_steps loop rest)) (λ a. refreshed old (λ d. next a d))))) e))
          (goes_as here _ _ s (ap (λ p. Acting (access here.world p (λ a. refreshed old (λ d. next a d)))) head_is))

      module _ (s1 : State) where
        module _ (a : Access) (q : HasAccess here (step_core loop (is_dot rest.chain) (expr_of l.argument.now)) s (Ok a) s1) where
          abbrev Again : Result Unit Interrupt → Type 0
          Again z = (u : Value) (next : places.Current → Act) → Leads here (Acting (refreshed (made c u) next)) s1 z s1 (λ i. Acting (next (current_in here (store_of s1) c)))

          pub reach_gone : (y : Interrupt) → Again (Err y) → Reaches here loop rest c s (Err y) s1
          reach_gone y z = λ next. stops_then here s1 y (goes_then here (to_access next) (q (λ b. refreshed old (λ d. next b d)))) (z (or_unit (place_in here c (store_of s))) (λ d. next (access_meant a) d))

          pub reach_runs : (i : Unit) → Again (Ok i) → Reaches here loop rest c s (Ok (Some a)) s1
          reach_runs i z = λ next. goes_then here (to_access next) (goes_then here (q (λ b. refreshed old (λ d. next b d))) (z (or_unit (place_in here c (store_of s))) (λ d. next (access_meant a) d)))

-- ---- accesses

module _ (here : Setting) (loop : Bool) (s s1 : State) where
  access_as : (dot b : Bool) (e : tree.Expr) (x : Result Access Interrupt) → dot ≡ b → HasAccess here (step_core loop b e) s x s1 → HasAccess here (step_core loop dot e) s x s1
  access_as dot b e x h q = subst (λ c. HasAccess here (step_core loop c e) s x s1) (sym h) q

  module _ (dot : Bool) (h : dot ≡ true) (e : Expr) where
    member_as : (t : tree.Expr) (x : Result Access Interrupt) → expr_of e ≡ t → HasAccess here (step_core loop true t) s x s1 → HasAccess here (step_core loop dot (expr_of e)) s x s1
    member_as t x k q = access_as dot true (expr_of e) x h (subst (λ u. HasAccess here (step_core loop true u) s x s1) (sym k) q)

    pub method_reached : (f got : FnCallExpr) (p : Position) (x : Result Access Interrupt) → e ≡ kind.MethodCall f p → got ≡ f → HasAccess here (method_core loop got) s x s1 → HasAccess here (step_core loop dot (expr_of e)) s x s1
    method_reached f got p x k g q = member_as (tree.MethodCall (callee_of f) (exprs_of f.args)) x (ap expr_of k ∙ expr_of-MethodCall f p) (subst (λ d. HasAccess here (method_core loop d) s x s1) g q)

no_member : (loop : Bool) {x : Expr} {t : tree.Expr} → ExprCase x t → NoProperty x → NoMethod x → member_of loop t ≡ core.IllStep
no_member loop (property_case n p) h k = absurd (h n p refl)
no_member loop (method_call_case f p) h k = absurd (k f p refl)
no_member loop (dynamic_constant_case v p) h k = refl
no_member loop (bool_constant_case b p) h k = refl
no_member loop (integer_constant_case n p) h k = refl
no_member loop (float_constant_case y p) h k = refl
no_member loop (char_constant_case c p) h k = refl
no_member loop (string_constant_case t p) h k = refl
no_member loop (interpolated_string_case xs p) h k = refl
no_member loop (array_case xs p) h k = refl
no_member loop (map_case m p) h k = refl
no_member loop (unit_case p) h k = refl
no_member loop (variable_case v short p) h k = refl
no_member loop (this_ptr_case p) h k = refl
no_member loop (braces_case b) h k = refl
no_member loop (call_case c p) h k = refl
no_member loop (dot_case x f p) h k = refl
no_member loop (index_case x f p) h k = refl
no_member loop (and_case xs p) h k = refl
no_member loop (or_case xs p) h k = refl
no_member loop (coalesce_case xs p) h k = refl

pub member_stuck : (here : Setting) (loop : Bool) (s : State) (dot : Bool) → dot ≡ true → (e : Expr) → NoProperty e → NoMethod e → HasAccess here (step_core loop dot (expr_of e)) s (Err (Stuck why.WrongKind)) s
member_stuck here loop s dot h e n m = access_as here loop s s dot true (expr_of e) (Err (Stuck why.WrongKind)) h (subst (λ p. HasAccess here p s (Err (Stuck why.WrongKind)) s) (sym (no_member loop (expr_cases e) n m)) (λ next. record { turns = omega arith; runs = λ d le. refl }))

-- methods
module _ (here : Setting) (loop : Bool) (f : FnCallExpr) (s : State) where
  abbrev method_here : core.Step
  method_here = core.Method f.name (core_exprs loop (exprs_of f.args))

  method_is : (b : Bool) → is_callable (callee_of f) (length f.args) ≡ b → method_core loop f ≡ cond b method_here core.IllStep
  method_is b h = ap (λ c. cond c method_here core.IllStep) (ap (is_callable (callee_of f)) (count_exprs_of f.args) ∙ h)

  pub method_stuck : is_callable (callee_of f) (length f.args) ≡ false → HasAccess here (method_core loop f) s (Err (Stuck why.WrongKind)) s
  method_stuck h = subst (λ p. HasAccess here p s (Err (Stuck why.WrongKind)) s) (sym (method_is false h)) (λ next. record { turns = omega arith; runs = λ d le. refl })

  module _ (h : is_callable (callee_of f) (length f.args) ≡ true) (s1 : State) where
    pub method_stops : (x : Interrupt) → RunsExprs here loop (exprs_of f.args) s (Err x) s1 → HasAccess here (method_core loop f) s (Err x) s1
    method_stops x q = subst (λ p. HasAccess here p s (Err x) s1) (sym (method_is true h)) (λ next. q (λ vs. next (chains.OfMethod f.name vs)))

    pub method_given : (vs : List Dynamic) → RunsExprs here loop (exprs_of f.args) s (Ok vs) s1 → (next : chains.Access → Act) → Goes here (Acting (access here.world (method_core loop f) next)) s (Acting (next (chains.OfMethod f.name (map value_of vs)))) s1
    method_given vs q = subst (λ p. (next : chains.Access → Act) → Goes here (Acting (access here.world p next)) s (Acting (next (chains.OfMethod f.name (map value_of vs)))) s1) (sym (method_is true h)) (λ next. q (λ us. next (chains.OfMethod f.name us)))
