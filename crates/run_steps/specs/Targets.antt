-- Assignments to parts of values.
use Rattle.std.specs.Prelude.{Some, Result}
use Rattle.rhai_base.specs.declared.dynamic.Dynamic.{Dynamic}
use Rattle.rhai_base.specs.Reading.{value_of}
use Rattle.rhai_base.specs.Value.{Value}
use Rattle.rhai_base.specs.Operators.{Operator}
use Rattle.theory_meaning.specs.Act.{Act}
use Rattle.theory_meaning.specs.ActForms.{◌>>=◌}
use Rattle.theory_meaning.specs.Calls.{assigned}
use Rattle.theory_meaning.specs.Places as places
use Rattle.theory_meaning.specs.Places.{inside, part, without_place}
use Rattle.run_places.specs.Reading.{key_meant, or_unit}
use Rattle.run_steps.specs.declared.steps.parts.Found.{Found}
use Rattle.run_steps.specs.declared.steps.parts.Found.TheVariants as found
use Rattle.run_state.specs.declared.state.Interrupt.{Interrupt}
use Rattle.run_state.specs.declared.state.State.{State}
use Rattle.run_state.specs.Runs.{Setting, Acting, Leads}

-- what a step has found at a current value
abbrev pub found_in : places.Current → Found → places.Current
found_in c (found.Part k) = part c (key_meant k) (or_unit (inside c.value (key_meant k)))
found_in c (found.Value v) = without_place (value_of v)

-- a step goes on with what it finds, whatever comes then
abbrev pub Finds : Setting → places.Current → ((places.Current → Act) → Act) → State → Result Found Interrupt → State → Type 0
Finds here c step s r s' = (next : places.Current → Act) → Leads here (Acting (step next)) s r s' (λ f. Acting (next (found_in c f)))

-- what an operator makes of a step's value, whatever is done with it
abbrev pub Changes : Setting → Operator → Value → ((places.Current → Act) → Act) → State → Result Dynamic Interrupt → State → Type 0
Changes here o v step s r s' = (next : Value → Act) → Leads here (Acting (step (λ d. assigned here.world (Some o) d.value v >>= next))) s r s' (λ x. Acting (next (value_of x)))
