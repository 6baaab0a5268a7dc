-- Chains whose steps run nothing, to parts of arrays and maps: their place need not be looked up again.
use Rattle.std.specs.Prelude.{◌≡◌, ℤ, Bool, true, Option, Some, None}
use Rattle.rhai_base.specs.Value.{Value, IntV}
use Rattle.rhai_base.specs.Operators.{Operator}
use Rattle.ast_types.specs.declared.expr.Expr.{Expr}
use Rattle.ast_types.specs.Reading.{expr_of}
use Rattle.theory_meaning.specs.Act.{Act, World}
use Rattle.theory_meaning.specs.ActForms.{◌>>=◌}
use Rattle.theory_meaning.specs.Calls.{assigned}
use Rattle.theory_meaning.specs.Chains as chains
use Rattle.theory_meaning.specs.Desugar.{core_expr}
use Rattle.theory_meaning.specs.Meaning as meaning
use Rattle.theory_meaning.specs.Places as places
use Rattle.run_steps.specs.Placing.{value_at}
use Rattle.run_steps.specs.Links.{rest_steps, step_core}
use Rattle.run_steps.specs.declared.nodes.links.Rest.{Rest}
use Rattle.run_state.specs.Runs.{Setting, Task, Acting, Goes, given}
use Rattle.run_state.specs.State.{store_of}
use Rattle.run_state.specs.declared.state.State.{State}
use Rattle.rhai_ast.specs.Nodes.{is_dot}
use Rattle.rhai_ast.specs.declared.walker.node.ChainType.{ChainType}

-- what a chain has come to is what stands at its place
pub record StandsThere (here : Setting) (s : State) (c : places.Current) : Type 0 where
  pub place : places.Place
  pub is : c.place ≡ Some place
  pub stands : value_at here (store_of s) place ≡ Some c.value

-- what is left of a chain comes to this value, and changes nothing
abbrev pub Comes : Setting → State → Bool → Rest → places.Current → Value → Type 0
Comes here s loop rest c v = Goes here (Acting (meaning.steps here.world (rest_steps loop rest) c)) s (given v) s

-- from one value to another, wherever the first stands
abbrev pub ComesFrom : Setting → State → Rest → Value → Value → Type 0
ComesFrom here s rest u v = (loop : Bool) (c : places.Current) → c.value ≡ u → StandsThere here s c → Comes here s loop rest c v

-- a step from a value to its part at a key, whose argument changes nothing
pub record StepsBy (here : Setting) (s : State) (chain : ChainType) (argument : Expr) (key : places.PlaceKey) (u v : Value) : Type 0 where
  pub to : chains.Access
  pub part : places.inside u key ≡ Some v
  pub reached : (loop : Bool) (next : chains.Access → Act) → Goes here (Acting (meaning.access here.world (step_core loop (is_dot chain) (expr_of argument)) next)) s (Acting (next to)) s
  pub applied : (c : places.Current) → c.value ≡ u → (next : places.Current → Act) → chains.applied here.world to c next ≡ next (places.part c key v)
  pub written : (c : places.Current) → c.value ≡ u → (p : places.Place) (x : Value) → chains.set_placed x to c p ≡ places.write_place true (places.under key p) x

-- to a part of it, at whatever key
pub record StepsTo (here : Setting) (s : State) (chain : ChainType) (argument : Expr) (u v : Value) : Type 0 where
  pub key : places.PlaceKey
  pub step : StepsBy here s chain argument key u v

-- to the part at this key, wherever there is one
abbrev pub KeySteps : Setting → State → ChainType → Expr → places.PlaceKey → Type 0
KeySteps here s chain argument k = (u v : Value) → places.inside u k ≡ Some v → StepsBy here s chain argument k u v

-- an index of this value, which changes nothing
abbrev pub IsIndex : Setting → State → Expr → ℤ → Type 0
IsIndex here s e i = (loop : Bool) → Goes here (Acting (meaning.act here.world (core_expr loop (expr_of e)))) s (given (IntV i)) s

-- ---- from a place as far as nothing is run

-- what is left to read at a place where this value stands, if anything is left of the chain
abbrev pub left_to_read : Setting → Bool → Option Rest → places.Place → Value → Task
left_to_read here loop None p u = given u
left_to_read here loop (Some r) p u = Acting (meaning.steps here.world (rest_steps loop r) (record { value = u; place = Some p }))

-- an assignment to what stands at a place, by what it is
abbrev pub assign_at : World → Option Operator → Value → places.Place → Value → Act
assign_at w None v p u = places.write_place true p v
assign_at w (Some op) v p u = assigned w (Some op) u v >>= λ x. places.write_place true p x

-- what is left of an assignment at a place where this value stands, if anything is left of the chain
abbrev pub left_to_assign : Setting → Bool → Option Operator → Value → Option Rest → places.Place → Value → Task
left_to_assign here loop o v None p u = Acting (assign_at here.world o v p u)
left_to_assign here loop o v (Some r) p u = Acting (meaning.assign_steps here.world o v (rest_steps loop r) (record { value = u; place = Some p }))

-- what is left of a chain comes from a current value to this place, with so much left
pub record ComesToPlace (here : Setting) (s : State) (rest : Rest) (c : places.Current) (left : Option Rest) (p : places.Place) : Type 0 where
  pub value : Value
  pub stands : value_at here (store_of s) p ≡ Some value
  pub reads : (loop : Bool) → Goes here (Acting (meaning.steps here.world (rest_steps loop rest) c)) s (left_to_read here loop left p value) s
  pub assigns : (loop : Bool) (o : Option Operator) (v : Value) → Goes here (Acting (meaning.assign_steps here.world o v (rest_steps loop rest) c)) s (left_to_assign here loop o v left p value) s

-- from a place, if this value stands there
abbrev pub Follows : Setting → State → Rest → places.Place → Value → Option Rest → places.Place → Type 0
Follows here s rest q u left p = value_at here (store_of s) q ≡ Some u → ComesToPlace here s rest (record { value = u; place = Some q }) left p
