-- What stands at places, and what a chain has come to.
use Rattle.std.specs.Prelude.{◌≡◌, Bool, true, false, map, Option, Some, None, Result, Ok, Err, option_map}
use Rattle.std.specs.Borrow.{Bor}
use Rattle.rhai_base.specs.declared.dynamic.Dynamic.{Dynamic}
use Rattle.rhai_base.specs.Reading.{value_of}
use Rattle.rhai_base.specs.Value.{Value}
use Rattle.theory_meaning.specs.Act as act
use Rattle.theory_meaning.specs.Act.{Store, Act, Read, OfName, OfGlobal, OfThis, Unbound, UnboundThis, NoPlace, found}
use Rattle.theory_meaning.specs.ActForms.{◌>>=◌}
use Rattle.theory_meaning.specs.Elements.{at_index}
use Rattle.theory_meaning.specs.Engine.{constant_named}
use Rattle.theory_meaning.specs.Places as places
use Rattle.theory_meaning.specs.Places.{along, at_root, without_place}
use Rattle.run_places.specs.declared.standing.Part.{Part}
use Rattle.run_places.specs.Reading.{key_meant, part_value, or_unit}
use Rattle.run_steps.specs.declared.steps.placing.Place.{Place}
use Rattle.run_steps.specs.declared.steps.placing.Current.{Current}
use Rattle.run_steps.specs.declared.steps.placing.Current.TheVariants.{At, Loose}
use Rattle.run_host.specs.declared.report.Stuck.{Stuck}
use Rattle.run_host.specs.declared.report.Stuck.TheVariants as why
use Rattle.run_state.specs.declared.state.Interrupt.{Interrupt}
use Rattle.run_state.specs.declared.state.Interrupt.TheVariants as stopped
use Rattle.run_host.specs.Report.{stuck_meant}
use Rattle.run_state.specs.Runs.{Setting}
use Rattle.run_steps.specs.Variables.{root_meant}

abbrev pub place_meant : Place → places.Place
place_meant p = record { root = root_meant p.root; keys = map key_meant p.keys }

-- the value of a name, of a constant of the script's own list or of `this`, by what is in scope and in the record
abbrev pub root_value : Setting → Store → act.Root → Option Value
root_value here st (OfName x) = option_map (λ e. e.value) (found here.world.engine.constants st.scope x)
root_value here st (OfGlobal x) = constant_named st.globals x
root_value here st OfThis = st.this

abbrev pub root_stuck : act.Root → act.Stuck
root_stuck (OfName x) = Unbound
root_stuck (OfGlobal x) = Unbound
root_stuck OfThis = UnboundThis

abbrev pub value_at : Setting → Store → places.Place → Option Value
value_at here st p = at_index (root_value here st p.root) (λ v. along v p.keys)

-- what stands there, or unit
abbrev pub or_unit_at : Setting → Store → places.Place → Value
or_unit_at here st p = or_unit (value_at here st p)

-- why nothing stands there
abbrev pub stuck_by : Option Value → act.Root → act.Stuck
stuck_by None r = root_stuck r
stuck_by (Some v) r = NoPlace

abbrev pub place_stuck : Setting → Store → places.Place → act.Stuck
place_stuck here st p = stuck_by (root_value here st p.root) p.root

abbrev pub HasRoot : Setting → Store → act.Root → Result (Bor Dynamic) Stuck → Type 0
HasRoot here st r (Ok v) = root_value here st r ≡ Some (value_of v.now)
HasRoot here st r (Err f) = (root_value here st r ≡ None) × (stuck_meant f ≡ root_stuck r)

abbrev pub HasPart : Setting → Store → places.Place → Result Part Stuck → Type 0
HasPart here st p (Ok v) = value_at here st p ≡ Some (part_value v)
HasPart here st p (Err f) = (value_at here st p ≡ None) × (stuck_meant f ≡ place_stuck here st p)

-- a current value of which the value was this, where it has a place
abbrev pub made : Current → Value → places.Current
made (At p) v = record { value = v; place = Some (place_meant p) }
made (Loose w) v = without_place (value_of w)

abbrev pub place_in : Setting → Current → Store → Option Value
place_in here (At p) st = value_at here st (place_meant p)
place_in here (Loose w) st = None

abbrev pub current_in : Setting → Store → Current → places.Current
current_in here st c = made c (or_unit (place_in here c st))

-- a base that is a name or `this`
abbrev pub read_base : act.Root → (places.Current → Act) → Act
read_base r next = Read r >>= λ v. next (at_root v r)

-- how a write in a constant ends, by what stands there
abbrev pub constant_end : Bool → Option Value → Result Unit Interrupt
constant_end must None = Err (stopped.Stuck why.NoPlace)
constant_end true (Some v) = Err (stopped.Stuck why.WriteToConstant)
constant_end false (Some v) = Ok (tt {0})
