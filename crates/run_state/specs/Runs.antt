-- What is left to do of a run, and how far the evaluator's functions come with it.
use Rattle.std.specs.Prelude.{◌≡◌, ℕ, ◌≤◌, true, List, Option, Some, None, IfSome, Result, Ok, Err}
use Rattle.rhai_base.specs.Value.{Value}
use Rattle.rhai_base.specs.declared.dynamic.Dynamic.{Dynamic}
use Rattle.rhai_base.specs.Reading.{value_of}
use Rattle.theory_meaning.specs.Act as act
use Rattle.theory_meaning.specs.Act.{Exit, Returns, Breaks, Continues, Throws, Ending, Gives, Leaves, Halt, IsStuck, OutOfTurns, Outcome, Ended, Halted, At, Store, World, Act, Acts, Env, and_then, leave, run, run_all}
use Rattle.theory_meaning.specs.Core.{Function}
use Rattle.theory_meaning.specs.Run.{env_at}
use Rattle.run_state.specs.declared.state.Interrupt.{Interrupt}
use Rattle.run_state.specs.declared.state.Interrupt.TheVariants.{NoMemory, Return, Break, Continue, Throw, Stuck, OutOfTurns as NoTurns}
use Rattle.run_state.specs.declared.state.State.{State}
use Rattle.run_host.specs.Report.{stuck_meant}
use Rattle.run_state.specs.State.{store_of}

-- what a run is in
pub record Setting : Type 0 where
  pub world : World
  pub functions : List Function

abbrev pub setting_of : World → List Function → Setting
setting_of w fs = record { world = w; functions = fs }

abbrev pub env : Setting → ℕ → Env
env here d = env_at true here.world here.functions d

-- What is left to do: an act, a list of acts, nothing; something that goes on by how it ends; a list inside, which began
-- in this store.
pub data Task : Type 0 where
  Acting : Act → Task
  Listing : Acts → Task
  Over : Outcome → Task
  Bound : Task → (Ending → Act) → Task
  Within : Store → Task → Task

abbrev pub run_of : Setting → Task → ℕ → Store → ℕ → act.Result
run_of here (Acting a) d st t = run here.world (env here d) a st t
run_of here (Listing p) d st t = run_all here.world (env here d) p st t
run_of here (Over o) d st t = At o st t
run_of here (Bound f next) d st t = and_then (run_of here f d st t) (λ e. run here.world (env here d) (next e))
run_of here (Within old f) d st t = leave old (run_of here f d st t)

-- From the second state on so much is left to do as was from the first on, at each depth that the turns cannot use up.
pub record Goes (here : Setting) (f : Task) (s : State) (g : Task) (s' : State) : Type 0 where
  pub turns : s'.turns ≤ s.turns
  pub runs : (d : ℕ) → s.turns ≤ d → run_of here f d (store_of s) s.turns ≡ run_of here g d (store_of s') s'.turns

-- an end without a value: a way to leave, or a halt
pub data Stop : Type 0 where
  Leaving : Exit → Stop
  Halting : Halt → Stop

abbrev pub stopped : Stop → Outcome
stopped (Leaving x) = Ended (Leaves x)
stopped (Halting h) = Halted h

-- nothing is said where there was no memory
abbrev pub stop_of : Interrupt → Option Stop
stop_of NoMemory = None
stop_of (Return v) = Some (Leaving (Returns (value_of v)))
stop_of (Break v) = Some (Leaving (Breaks (value_of v)))
stop_of Continue = Some (Leaving Continues)
stop_of (Throw v) = Some (Leaving (Throws (value_of v)))
stop_of (Stuck f) = Some (Halting (IsStuck (stuck_meant f)))
stop_of NoTurns = Some (Halting OutOfTurns)

abbrev pub Stops : Setting → Task → State → Interrupt → State → Type 0
Stops here f s x s' = IfSome (stop_of x) (λ p. Goes here f s (Over (stopped p)) s')

-- what a function's answer leads to: what is left to do by its value, or an end
abbrev pub Leads : {T : Type 0} → Setting → Task → State → Result T Interrupt → State → (T → Task) → Type 0
Leads here f s (Ok v) s' next = Goes here f s (next v) s'
Leads here f s (Err x) s' next = Stops here f s x s'

abbrev pub given : Value → Task
given v = Over (Ended (Gives v))

-- the same where the answer is the value of what is done
abbrev pub Runs : Setting → Task → State → Result Dynamic Interrupt → State → Type 0
Runs here f s r s' = Leads here f s r s' (λ v. given (value_of v))
