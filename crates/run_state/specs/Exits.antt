-- How parts of a run end by the ends of their parts.
use Rattle.std.specs.Prelude.{◌≡◌, ℕ, ℤ, pos, ◌^◌, cond, nat_lt, Option, Some, None, Result, Ok, Err}
use Rattle.rhai_base.specs.declared.dynamic.Dynamic.{Dynamic}
use Rattle.rhai_base.specs.declared.dynamic.Dynamic.TheVariants as value
use Rattle.rhai_base.specs.Reading.{value_of}
use Rattle.theory_meaning.specs.Act.{Exit, Again, Ending, Gives, Leaves}
use Rattle.theory_meaning.specs.Shape.{is_unit}
use Rattle.run_state.specs.declared.state.Interrupt.{Interrupt}
use Rattle.run_state.specs.declared.state.Interrupt.TheVariants.{Return, Break, Continue, Throw, Stuck}
use Rattle.run_host.specs.declared.report.Stuck.TheVariants as why
use Rattle.run_state.specs.Runs.{Leaving, stop_of}
use Rattle.std.specs.Prelude.{if◌then◌else◌}

abbrev pub LeavesBy : Interrupt → Exit → Type 0
LeavesBy x e = stop_of x ≡ Some (Leaving e)

-- what the body of a `try` throws
abbrev pub body_end : Result Dynamic Interrupt → Result (Option Dynamic) Interrupt
body_end (Ok v) = Ok None
body_end (Err (Throw v)) = Ok (Some v)
body_end (Err x) = Err x

-- a branch that throws unit throws the caught value
abbrev pub branch_end : Result Dynamic Interrupt → Dynamic → Result Dynamic Interrupt
branch_end (Ok v) caught = Ok value.Unit
branch_end (Err (Throw v)) caught = Err (Throw (if is_unit (value_of v) then caught else v))
branch_end (Err x) caught = Err x

-- how a round ends by its body: with another one to follow, or with the loop's value
abbrev pub round_of : Result Dynamic Interrupt → Result (Option Dynamic) Interrupt
round_of (Ok v) = Ok None
round_of (Err Continue) = Ok None
round_of (Err (Break v)) = Ok (Some v)
round_of (Err x) = Err x

abbrev pub round_end : Option Dynamic → Ending
round_end None = Leaves Again
round_end (Some v) = Gives (value_of v)

-- the k-th count of a loop, as long as an integer holds it
abbrev pub count_of : ℕ → Option ℤ
count_of k = cond (nat_lt k (2 ^ 63)) (Some (pos k)) None

-- how a script's function ends by its body
abbrev pub function_end : Result Dynamic Interrupt → Result Dynamic Interrupt
function_end (Err (Return v)) = Ok v
function_end (Err (Break v)) = Err (Stuck why.WrongKind)
function_end (Err Continue) = Err (Stuck why.WrongKind)
function_end r = r
