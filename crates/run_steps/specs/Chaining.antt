-- The steps of chains.
use Rattle.std.specs.Prelude.{Bool, false, ℕ, cond, List, map, Option, Some, None, Result, option_map}
use Rattle.rhai_base.specs.declared.dynamic.Dynamic.{Dynamic}
use Rattle.rhai_base.specs.Reading.{value_of}
use Rattle.rhai_base.specs.Value.{Text, Value, UnitV}
use Rattle.ast_types.specs.declared.expr.FnCallExpr.{FnCallExpr}
use Rattle.ast_types.specs.declared.script_fn.ScriptFuncDef.{ScriptFuncDef}
use Rattle.ast_types.specs.Reading.{callee_of, exprs_of, is_negated}
use Rattle.script_tables.specs.FnKey.{definition_key}
use Rattle.script_tables.specs.Table.{find_by}
use Rattle.theory_meaning.specs.Act.{Act, Key, Invoke}
use Rattle.theory_meaning.specs.ActForms.{ask_method}
use Rattle.theory_meaning.specs.Calls.{key}
use Rattle.theory_meaning.specs.Chains as chains
use Rattle.theory_meaning.specs.Chains.{method_key, unless_unit}
use Rattle.theory_meaning.specs.Core as core
use Rattle.theory_meaning.specs.Desugar.{based, core_expr, core_exprs, method_of, root_of, steps_of}
use Rattle.theory_meaning.specs.Meaning.{access}
use Rattle.theory_meaning.specs.Places as places
use Rattle.theory_meaning.specs.Places.{refreshed}
use Rattle.theory_meaning.specs.Shape.{is_chain}
use Rattle.theory_meaning.specs.Tree as tree
use Rattle.run_steps.specs.declared.steps.parts.Access.{Access}
use Rattle.run_steps.specs.declared.steps.parts.Access.TheVariants as reached
use Rattle.run_steps.specs.declared.nodes.links.Rest.{Rest}
use Rattle.run_steps.specs.Links.{rest_steps, step_core}
use Rattle.run_steps.specs.declared.steps.parts.PropertyNames.{PropertyNames}
use Rattle.run_steps.specs.declared.steps.placing.Current.{Current}
use Rattle.run_state.specs.declared.state.Interrupt.{Interrupt}
use Rattle.run_state.specs.declared.state.State.{State}
use Rattle.run_steps.specs.Placing.{current_in}
use Rattle.run_state.specs.Runs.{Setting, Task, Acting, Leads, given}
use Rattle.run_state.specs.State.{store_of}

abbrev pub names_meant : PropertyNames → tree.PropertyNames
names_meant n = record { getter = n.getter.now; setter = n.setter.now; name = n.name.now }

-- ---- steps

-- a step goes on with what the answer is then
abbrev pub StepsOn : Setting → ((places.Current → Act) → Act) → State → Result Current Interrupt → State → Type 0
StepsOn here step s r s' = (next : places.Current → Act) → Leads here (Acting (step next)) s r s' (λ c. Acting (next (current_in here (store_of s') c)))

abbrev pub access_meant : Access → chains.Access
access_meant (reached.Property n) = chains.OfProperty (names_meant n)
access_meant (reached.Index v) = chains.OfIndex (value_of v)
access_meant (reached.Method f vs) = chains.OfMethod f.now (map value_of vs)

abbrev pub head_of : core.Steps → core.Step
head_of (core.last o p) = p
head_of (core.more o p sts) = p

-- an access, whatever is done with it
abbrev pub HasAccess : Setting → core.Step → State → Result Access Interrupt → State → Type 0
HasAccess here p s r s' = (next : chains.Access → Act) → Leads here (Acting (access here.world p next)) s r s' (λ a. Acting (next (access_meant a)))

-- what is done with a step's access at a current value; the chain may end before
abbrev pub reached_then : (chains.Access → places.Current → Act) → places.Current → Option Access → Task
reached_then next c None = given UnitV
reached_then next c (Some a) = Acting (next (access_meant a) c)

-- the first step of the rest of a chain, its argument evaluated
abbrev pub Reaches : Setting → Bool → Rest → Current → State → Result (Option Access) Interrupt → State → Type 0
Reaches here loop rest c s r s' =
    let old = current_in here (store_of s) c in
    (next : chains.Access → places.Current → Act) → Leads here (Acting (unless_unit (is_negated rest.options) old (access here.world (head_of (rest_steps loop rest)) (λ a. refreshed old (λ d. next a d))))) s r s' (λ o. reached_then next (current_in here (store_of s') c) o)

-- a chain by its outermost node
abbrev pub chain_core : (loop dot : Bool) → tree.ChainFlags → tree.Expr → tree.Expr → core.Expr
chain_core loop dot k l r = cond (is_chain dot k r) (core.Chain (based (root_of l) (core_expr loop l)) (steps_of loop dot k (step_core loop dot r) r)) core.Ill

-- ---- methods

abbrev pub method_core : Bool → FnCallExpr → core.Step
method_core loop c = method_of (callee_of c) (tree.count_exprs (exprs_of c.args)) (core_exprs loop (exprs_of c.args))

-- a function of the script by its key, else the host
abbrev pub by_key : Text → List Value → Value → Option Key → (Value → Option Value → Act) → Act
by_key f vs v (Some k) next = Invoke (record { function = k; captures = false; this = Some v; arguments = vs }) next
by_key f vs v None next = ask_method f v vs next

-- a method's value and the receiver's new one, whatever is done with them
abbrev pub CallsMethod : Setting → Text → Value → List Value → State → Result (Dynamic × Option Dynamic) Interrupt → State → Type 0
CallsMethod here f v vs s r s' = (next : Value → Option Value → Act) → Leads here (Acting (by_key f vs v (method_key here.world f vs v) next)) s r s' (λ p. Acting (next (value_of p.0) (option_map value_of p.1)))

abbrev pub or_else : {T : Type 0} → Option T → Option T → Option T
or_else (Some x) o = Some x
or_else None o = o

-- the function of a method among these: for the receiver's type, else for any
abbrev pub method_in : List ScriptFuncDef → Text → ℕ → Text → Option ScriptFuncDef
method_in fs f n t = or_else (find_by definition_key (key f n (Some t)) fs) (find_by definition_key (key f n None) fs)
